-- What an operation says of whether its object shows, and the site of one that hides it.
use Rattle.std.specs.Prelude.{ℕ, Bool, true, false, List, Option, Some, None, slice_get}
use Rattle.gf_ops.specs.declared.op.Op.{Op}
use Rattle.gf_ops.specs.declared.change.Change.{Change}
use Rattle.gf_ops.specs.declared.change.Change.TheVariants.{Create, Set}
use Rattle.gf_ops.specs.declared.change.Value.{Value}
use Rattle.gf_ops.specs.declared.change.Value.TheVariants as value

-- whether the value shows, if it says that
abbrev pub shown_value : Value → Option Bool
shown_value (value.Shown b) = Some b
shown_value (value.Place p) = None
shown_value (value.Points ps) = None
shown_value (value.Size w h) = None
shown_value (value.Colour c) = None
shown_value (value.Layer n) = None

-- whether the change shows its object, if it says that
abbrev pub shown_by : Change → Option Bool
shown_by (Create start) = Some start.shown
shown_by (Set o v aim) = shown_value v

-- the site of one that hides, of what is said; else 0
abbrev pub site_if_hiding : Option Bool → ℕ → ℕ
site_if_hiding (Some false) site = site
site_if_hiding (Some true) site = 0
site_if_hiding None site = 0

-- the site of an operation that hides its object; else 0
abbrev pub hiding_site : Op → ℕ
hiding_site a = site_if_hiding (shown_by a.change) a.id.site

-- the site of the operation, if it is there and hides its object; else 0
abbrev pub hiding_site_of : Option Op → ℕ
hiding_site_of (Some a) = hiding_site a
hiding_site_of None = 0

-- the site of the operation of h at the position i, if that hides its object; else 0
abbrev pub hiding_site_at : List Op → ℕ → ℕ
hiding_site_at h i = hiding_site_of (slice_get h i)
