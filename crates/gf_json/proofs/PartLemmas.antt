-- What is made of parts that are read keeps its limits where they do.
use Rattle.std.proofs.Common.{◌≡◌, ◌⊎◌, inl, inr, ℕ, Bool, ◌&&◌, List, arith, Ok, Err}
use Rattle.std.specs.Prelude.{Option, option_map}
use Rattle.gf_plane.specs.declared.colour.Rgb.{Rgb}
use Rattle.gf_plane.specs.declared.point.Point.{Point}
use Rattle.gf_ops.specs.declared.op.OpId.{OpId}
use Rattle.gf_ops.specs.declared.change.Form.{Form}
use Rattle.gf_ops.specs.declared.change.Value.{Value}
use Rattle.gf_ops.specs.declared.change.Change.{Change}
use Rattle.gf_ops.specs.declared.change.Change.TheVariants.{Create, Set}
use Rattle.gf_ops.specs.Limits.{is_site, is_id, is_near, is_form, is_colour, is_layer, is_value}
use Rattle.gf_ops.specs.Limits.{is_aim, is_change}
use Rattle.gf_json.specs.declared.line_error.LineError.{LineError}
use Rattle.gf_json.specs.declared.scripts.KeepLine.{KeepLine}
use Rattle.gf_json.specs.LineValues.{Got}
use Rattle.gf_json.specs.LineForms.{◌&◌}
use Rattle.gf_json.specs.KeepLines.{is_keep}
use Rattle.gf_json.specs.Limited.{limited}

-- u is what x has within the limits
abbrev Reads : {A : Type 0} → (A → Bool) → Option A → Option A → Type 0
Reads {A = A} keeps u x = ◌≡◌ {A = Got (Option A)} (Ok u) (limited keeps x)

-- what is read where memory serves
pub served : {A : Type 0} (a : A) (e : LineError) (g : Got A)
    → (◌≡◌ {A = Got A} (Ok a) (Err e)) ⊎ (Ok a ≡ g) → Ok a ≡ g
served a e g (inl m) = absurd cc
served a e g (inr h) = h

-- ---- a new object

abbrev Look : Type 0
Look = Rgb × (ℕ × Bool)

abbrev is_look : Look → Bool
is_look l = is_colour l.0 && is_layer l.1.0

abbrev create : Form × (Point × Look) → Change
create (f, (p, (c, (l, s)))) =
    Create (record { form = f; place = p; colour = c; layer = l; shown = s })

pub create_limited : (f u : Option Form) (p v : Option Point) (l w : Option Look)
    → Reads is_form u f → Reads is_near v p → Reads is_look w l
    → Reads is_change (option_map create (u & v & w)) (option_map create (f & p & l))
create_limited f u p v l w h k m = grind arith

-- ---- a new value

abbrev set : OpId × (Value × List OpId) → Change
set (o, (v, ids)) = Set (record { 0 = o }) v ids

pub set_limited : (o u : Option OpId) (n v : Option Value) (a w : Option (List OpId))
    → Reads is_id u o → Reads is_value v n → Reads is_aim w a
    → Reads is_change (option_map set (u & v & w)) (option_map set (o & n & a))
set_limited o u n v a w h k m = grind arith

-- ---- a line that keeps versions

abbrev keep : ℕ × (OpId × List OpId) → KeepLine
keep p = record { site = p.0; object = record { 0 = p.1.0 }; with = p.1.1 }

pub keep_limited : (s u : Option ℕ) (o v : Option OpId) (a w : Option (List OpId))
    → Reads is_site u s → Reads is_id v o → Reads is_aim w a
    → Reads is_keep (option_map keep (u & v & w)) (option_map keep (s & o & a))
keep_limited s u o v a w h k m = grind arith
