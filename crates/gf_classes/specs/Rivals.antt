-- Which setters of an object conflict directly. No public clause cites this module.
use Rattle.std.specs.Prelude.{◌≡◌, ◌≢◌, ◌↔◌, ◌⊎◌, ℕ, Bool, true, false, List, Contains}
use Rattle.std.specs.Prelude.{Option, Some, None, slice_get}
use Rattle.gf_ops.specs.declared.op.Op.{Op}
use Rattle.gf_ops.specs.declared.change.Change.{Change}
use Rattle.gf_ops.specs.declared.change.Change.TheVariants.{Create, Set}
use Rattle.gf_ops.specs.declared.change.Value.{Value}
use Rattle.gf_ops.specs.ConflictTests.{value_eq}
use Rattle.gf_classes.specs.declared.fingerprint.Fingerprint.{Fingerprint}
use Rattle.gf_classes.specs.declared.setters.Setter.{Setter}
use Rattle.gf_classes.specs.Direct.{direct_at}

-- the value that the change sets, if it makes no object
abbrev pub value_set : Change → Option Value
value_set (Set o v aim) = Some v
value_set (Create start) = None

-- the value that the operation sets, if it is there and makes no object
abbrev pub op_value : Option Op → Option Value
op_value (Some a) = value_set a.change
op_value None = None

-- the value of the setter, if there is one
abbrev pub setter_value : List Op → Option Setter → Option Value
setter_value h (Some e) = op_value (slice_get h e.position)
setter_value h None = None

-- both values are there, and are one
abbrev pub are_one : Option Value → Option Value → Bool
are_one (Some v) (Some w) = value_eq v w
are_one v w = false

-- the setters x and y have one value
abbrev pub have_one_value : List Op → Option Setter → Option Setter → Bool
have_one_value h x y = are_one (setter_value h x) (setter_value h y)

-- new has what old has, and x if P holds
abbrev pub AddsIf : Type 0 → ℕ → List ℕ → List ℕ → Type 0
AddsIf P x old new = (n : ℕ) → Contains new n ↔ (Contains old n ⊎ (P × (n ≡ x)))

-- the setter with the rank q conflicts directly with x
pub record IsRival (h : List Op) (ss : List Setter) (x : Setter) (q : ℕ) : Type 0 where
  pub setter : Setter
  pub at : slice_get ss q ≡ Some setter
  pub direct : direct_at h x.position setter.position ≡ true

-- d are the ranks of the setters that conflict directly with x
abbrev pub AreRivals : List Op → List Setter → Setter → List ℕ → Type 0
AreRivals h ss x d = (q : ℕ) → Contains d q ↔ IsRival h ss x q

-- q is in d, and the value of its setter does not have the fingerprint f
pub record IsRivalRank (ss : List Setter) (d : List ℕ) (f : Option Fingerprint)
    (q : ℕ) : Type 0 where
  pub setter : Setter
  pub at : slice_get ss q ≡ Some setter
  pub contained : Contains d q
  pub other : f ≢ Some setter.fingerprint

-- the setters in d without the fingerprint f are those that conflict directly with x
abbrev pub AreRivalRanks : List Op → List Setter → Setter → List ℕ → Option Fingerprint → Type 0
AreRivalRanks h ss x d f = (q : ℕ) → IsRival h ss x q ↔ IsRivalRank ss d f q
