-- What a site answers to the command that it make an operation, or wait for one (this project's
-- choice).
use Rattle.std.specs.Prelude.{◌≡◌, ◌≢◌, ℕ, List, ◌∷◌}
use Rattle.std.specs.Prelude.{Contains, Option, Some, None, IsTrue}
use Rattle.gf_ops.specs.declared.op.Op.{Op}
use Rattle.gf_ops.specs.declared.op.OpId.{OpId}
use Rattle.gf_ops.specs.declared.change.Change.{Change}
use Rattle.gf_ops.specs.Limits.{is_id}
use Rattle.gf_ops.specs.OperationOrder.{Precedes}
use Rattle.gf_causal.specs.HeldOperations.{IsFree}
use Rattle.gf_site.specs.SiteState.{authored}
use Rattle.gf_site.specs.Events.{Refuses}
use Rattle.gf_site.specs.declared.faults.AuthorFault.TheVariants as fault
use Rattle.gf_site.specs.declared.cause.Cause.{Cause}
use Rattle.gf_site.specs.declared.cause.Cause.TheVariants as cause

-- the operation under the id stands in the list
pub record HasOp (ops : List Op) (i : OpId) : Type 0 where
  pub op : Op
  pub contained : Contains ops op
  pub id : op.id ≡ i

-- a comes after an operation of site s that stands in the list
pub record ComesAfter (s : ℕ) (later : List Op) (a : Op) : Type 0 where
  pub op : Op
  pub contained : Contains later op
  pub site : op.id.site ≡ s
  pub before : Precedes op a

-- of other sites nothing comes but what comes after an operation that site s makes later
abbrev pub NothingComes : ℕ → List Op → Type 0
NothingComes s later = (a : Op) → Contains later a → a.id.site ≢ s → ComesAfter s later a

-- the operation of an accepted change is the next of the list
pub record IsNextChange (s : ℕ) (before later : List Op) (c : Change) : Type 0 where
  pub rest : List Op
  pub next : later ≡ authored s before c ∷ rest

-- an accepted change becomes the next operation; a refused one has the first of its causes
abbrev pub AuthorAnswer : ℕ → List Op → List Op → Change → Option Cause → Type 0
AuthorAnswer s before later c None = IsNextChange s before later c
AuthorAnswer s before later c (Some cause.Exhausted) = Refuses s before c fault.Exhausted
AuthorAnswer s before later c (Some cause.Range) = Refuses s before c fault.Range
AuthorAnswer s before later c (Some cause.NoObject) = Refuses s before c fault.NoObject
AuthorAnswer s before later c (Some cause.WrongKind) = Refuses s before c fault.WrongKind
AuthorAnswer s before later c (Some cause.BadAim) = Refuses s before c fault.BadAim
AuthorAnswer s before later c r = ⊥

-- a passed Await has its id before it; a refused one has the first of its causes
abbrev pub AwaitAnswer : ℕ → List Op → List Op → OpId → Option Cause → Type 0
AwaitAnswer s before later i None = IsTrue (is_id i) × (i.site ≢ s) × HasOp before i
AwaitAnswer s before later i (Some cause.Range) = ¬ (IsTrue (is_id i))
AwaitAnswer s before later i (Some cause.OwnId) = IsTrue (is_id i) × (i.site ≡ s)
AwaitAnswer s before later i (Some cause.NeverComes) =
    IsTrue (is_id i) × (i.site ≢ s) × IsFree before i × NothingComes s later
AwaitAnswer s before later i r = ⊥
