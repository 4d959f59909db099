-- The operations that one site makes of changes (this project's choice).
use Rattle.std.specs.Prelude.{ℕ, List, [], ◌∷◌, ◌++◌}
use Rattle.gf_ops.specs.declared.op.Op.{Op}
use Rattle.gf_ops.specs.declared.change.Change.{Change}
use Rattle.gf_ops.specs.Accepted.{IsAccepted}
use Rattle.gf_ops.specs.Limits.{IsInRange}
use Rattle.gf_site.specs.SiteState.{authored}

-- behind h, site s makes these operations of the changes, one behind the other
pub data MakesEach (s : ℕ) : List Op → List Change → List Op → Type 0 where
  none : {h : List Op} → MakesEach s h [] []
  next : {h : List Op} {cs : List Change} {new : List Op} (c : Change)
      → IsInRange (authored s h c) → IsAccepted h (authored s h c)
      → MakesEach s (h ++ authored s h c ∷ []) cs new
      → MakesEach s h (c ∷ cs) (authored s h c ∷ new)
