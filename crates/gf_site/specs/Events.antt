-- What happens at one site: a change is made, or the site steps (this project's choice).
use Rattle.std.specs.Prelude.{◌≡◌, ◌<◌, ◌≤◌, ℕ, List, [], ◌∷◌, ◌++◌}
use Rattle.std.specs.Prelude.{IsTrue}
use Rattle.gf_ops.specs.declared.op.Op.{Op}
use Rattle.gf_ops.specs.declared.op.OpId.{OpId}
use Rattle.gf_ops.specs.declared.change.Change.{Change}
use Rattle.gf_ops.specs.declared.faults.OpFault.{OpFault}
use Rattle.gf_ops.specs.Aims.{IsAimed}
use Rattle.gf_ops.specs.Limits.{is_change, IsInRange}
use Rattle.gf_ops.specs.OperationOrder.{count_of}
use Rattle.gf_ops.specs.KnownObject.{IsFounded, IsSuited}
use Rattle.gf_ops.specs.Accepted.{IsAccepted}
use Rattle.gf_site.specs.declared.faults.AuthorFault.{AuthorFault}
use Rattle.gf_site.specs.declared.faults.AuthorFault.TheVariants as fault
use Rattle.gf_site.specs.declared.replica.Step.{Step}
use Rattle.gf_site.specs.ReplicaSteps.{AppliesNext, ForgetsNext, StepsOnce}
use Rattle.gf_site.specs.SiteState.{SiteState, authored, replica_of}

-- site s with the history h may make an operation, and the change c keeps the limits
pub record IsFit (s : ℕ) (h : List Op) (c : Change) : Type 0 where
  pub room : count_of h s < 10000
  pub in_range : IsTrue (is_change c)

-- site s with the history h refuses the change c, for its first fault; without one, memory may be
-- refused
abbrev pub Refuses : ℕ → List Op → Change → AuthorFault → Type 0
Refuses s h c fault.Exhausted = 10000 ≤ count_of h s
Refuses s h c fault.Range = (count_of h s < 10000) × (¬ (IsTrue (is_change c)))
Refuses s h c fault.NoObject = IsFit s h c × (¬ (IsFounded h (authored s h c) c))
Refuses s h c fault.WrongKind =
    IsFit s h c × IsFounded h (authored s h c) c × (¬ (IsSuited h (authored s h c) c))
Refuses s h c fault.BadAim =
    IsFit s h c × IsSuited h (authored s h c) c × (¬ (IsAimed h (authored s h c)))
Refuses s h c fault.OutOfMemory =
    IsFit s h c × IsSuited h (authored s h c) c × IsAimed h (authored s h c)

-- the site made the operation a of the change c, and had all that a knows
pub record Authors (old : SiteState) (c : Change) (a : Op) (new : SiteState) : Type 0 where
  pub is : a ≡ authored old.number old.ops c
  pub in_range : IsInRange a
  pub accepted : IsAccepted old.ops a
  pub state : new ≡ record old { ops = old.ops ++ a ∷ [] }

-- the site adds its ready operation with the least id, which has the id i
abbrev pub Applies : SiteState → OpId → SiteState → Type 0
Applies old i new = AppliesNext (replica_of old) i (replica_of new) × (new.number ≡ old.number)

-- the site forgets its ready operation with the least id, which is i, since its check failed with f
abbrev pub ForgetsReady : SiteState → OpId → OpFault → SiteState → Type 0
ForgetsReady old i f new =
    ForgetsNext (replica_of old) i f (replica_of new) × (new.number ≡ old.number)

-- what a step did
abbrev pub Steps : SiteState → Step → SiteState → Type 0
Steps old s new = StepsOnce (replica_of old) s (replica_of new) × (new.number ≡ old.number)
