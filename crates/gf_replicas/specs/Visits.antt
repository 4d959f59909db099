-- One new site that is offered the operations of a history, and steps at any moments (this
-- project's choice, over causal delivery).
use Rattle.std.specs.Prelude.{ℕ, List, [], ◌∷◌, ◌++◌, Contains}
use Rattle.gf_ops.specs.declared.op.Op.{Op}
use Rattle.gf_site.specs.declared.replica.Step.{Step}
use Rattle.gf_site.specs.SiteState.{SiteState, new_site}
use Rattle.gf_site.specs.Events.{Steps}
use Rattle.gf_replicas.specs.World.{Receives}

-- the new site n came to this state by offers of these operations of h, and by steps
pub data IsOffered (n : ℕ) (h : List Op) : List Op → SiteState → Type 0 where
  new : IsOffered n h [] (new_site n)
  offer : {offers : List Op} {old new : SiteState} {a : Op} → IsOffered n h offers old
      → Contains h a → Receives old a new → IsOffered n h (offers ++ a ∷ []) new
  step : {offers : List Op} {old new : SiteState} (s : Step) → IsOffered n h offers old
      → Steps old s new → IsOffered n h offers new
