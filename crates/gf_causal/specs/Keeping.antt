-- How a buffer keeps its operations, and what stands under an id. No public clause cites this
-- module.
use Rattle.std.specs.Prelude.{◌≡◌, ◌≢◌, List, Contains, map, Option, Some, None}
use Rattle.std.specs.Global.{Box}
use Rattle.std.specs.Map.{values_of}
use Rattle.gf_ops.specs.declared.op.Op.{Op}
use Rattle.gf_ops.specs.declared.op.OpId.{OpId}
use Rattle.gf_causal.specs.declared.standing.Standing.{Standing}
use Rattle.gf_causal.specs.declared.standing.Standing.TheVariants.{Free, Same, Other}
use Rattle.gf_causal.specs.HeldOperations.{AreHeld, IsFree, HasOther, IsClash, IsKnown, IsNew}

-- the entries with what lies in their boxes
abbrev pub opened : List (OpId × Box Op) → List (OpId × Op)
opened es = map (λ e. (e.0, e.1.value)) es

-- an operation with its id in front
abbrev pub entry_of : Op → OpId × Op
entry_of a = (a.id, a)

-- each operation with its id in front
abbrev pub keyed : List Op → List (OpId × Op)
keyed ops = map entry_of ops

-- the entries are operations that a buffer may hold, each under its id
pub record IsKept (es : List (OpId × Op)) : Type 0 where
  pub keys : es ≡ keyed (values_of es)
  pub held : AreHeld (values_of es)

-- how what was found under the id of a compares to a
abbrev pub Compares : Option Op → Op → Standing → Type 0
Compares found a Free = found ≡ None
Compares found a Same = found ≡ Some a
Compares found a Other = (b : Op) × (found ≡ Some b) × (b ≢ a)

-- what the list has under the id of a
abbrev pub Among : List Op → Op → Standing → Type 0
Among ops a Free = IsFree ops a.id
Among ops a Same = Contains ops a × (¬ (HasOther ops a))
Among ops a Other = HasOther ops a

-- what is held or in the history h under the id of a
abbrev pub IsStanding : List Op → List Op → Op → Standing → Type 0
IsStanding held h a Free = IsNew held h a
IsStanding held h a Same = IsKnown held h a
IsStanding held h a Other = IsClash held h a

-- what stands under an id in both lists together
abbrev pub joined : Standing → Standing → Standing
joined Other t = Other
joined Free t = t
joined Same Other = Other
joined Same Same = Same
joined Same Free = Same
