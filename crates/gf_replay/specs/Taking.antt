-- How a replica takes an operation that was read (this project's choice, over causal delivery).
use Rattle.std.specs.Prelude.{◌≡◌, ◌⊎◌, ◌↔◌, ℕ, List, Contains, ⊤}
use Rattle.gf_ops.specs.declared.op.Op.{Op}
use Rattle.gf_ops.specs.declared.op.OpId.{OpId}
use Rattle.gf_ops.specs.declared.faults.OpFault.{OpFault}
use Rattle.gf_ops.specs.Accepted.{AreAccepted, IsRefused}
use Rattle.gf_ops.specs.ValidHistory.{IsValid}
use Rattle.gf_causal.specs.DeliveredPart.{AreOneById}
use Rattle.gf_causal.specs.HeldOperations.{Adds, IsClash, IsKnown, IsNew}
use Rattle.gf_causal.specs.Ready.{IsReady, NoneIsReady}
use Rattle.gf_site.specs.ReplicaState.{ReplicaState}
use Rattle.gf_json.specs.declared.line_error.LineError.{LineError}
use Rattle.gf_json.specs.declared.line_error.LineError.TheVariants as line
use Rattle.gf_replay.specs.declared.reading_error.LineCause.TheVariants as cause
use Rattle.gf_replay.specs.declared.reading_error.ReadingError.{ReadingError}
use Rattle.gf_replay.specs.declared.reading_error.ReadingError.TheVariants as reading

-- line n has this fault
abbrev pub of_line : ℕ → LineError → ReadingError
of_line n line.Json = reading.Line n cause.Json
of_line n line.Field = reading.Line n cause.Field
of_line n line.Range = reading.Line n cause.Range
of_line n line.OutOfMemory = reading.OutOfMemory

-- the replica holds a, or its history has it
abbrev pub HasOrHolds : ReplicaState → Op → Type 0
HasOrHolds x a = Contains x.held a ⊎ Contains x.ops a

-- an offer of a adds it to what the replica holds, or finds it there
pub data Offers (x : ReplicaState) (a : Op) (y : ReplicaState) : Type 0 where
  again : IsKnown x.held x.ops a → y ≡ x → Offers x a y
  new : IsNew x.held x.ops a → Adds x.held a y.held → y.ops ≡ x.ops → Offers x a y

-- no held operation is in the history
abbrev pub HoldsOthers : ReplicaState → Type 0
HoldsOthers x = (a : Op) → Contains x.held a → ¬ (Contains x.ops a)

-- the replica has the operations that it had. If it held none of its history before, it holds none
-- of
-- its history now
pub record KeepsAll (old new : ReplicaState) : Type 0 where
  pub same : (a : Op) → HasOrHolds old a ↔ HasOrHolds new a
  pub others : HoldsOthers old → HoldsOthers new

-- the replica has the operations that it had, in a history by rule
pub record Moves (old new : ReplicaState) : Type 0 where
  pub keeps : KeepsAll old new
  pub accepted : AreAccepted new.ops
  pub valid : IsValid new.ops

-- the replica has the operations that it had, in a history by rule, and holds none that is ready
pub record StepsAll (old new : ReplicaState) : Type 0 where
  pub moves : Moves old new
  pub none : NoneIsReady new.ops new.held

-- after some steps an operation that the replica had is ready and doesn't fit, for this fault
pub record DropsReady (old : ReplicaState) (id : OpId) (fault : OpFault) : Type 0 where
  pub state : ReplicaState
  pub moves : Moves old state
  pub op : Op
  pub there : HasOrHolds old op
  pub named : op.id ≡ id
  pub ready : IsReady state.ops op
  pub refused : IsRefused state.ops op fault

-- a is offered to the replica, which steps until none is ready
pub record TakesOp (a : Op) (old new : ReplicaState) : Type 0 where
  pub offered : ReplicaState
  pub offers : Offers old a offered
  pub steps : StepsAll offered new

-- a is offered to the replica, and then the operation under this id doesn't fit, for this fault
pub record DropsBehind (a : Op) (old : ReplicaState) (id : OpId) (fault : OpFault) : Type 0 where
  pub offered : ReplicaState
  pub offers : Offers old a offered
  pub drops : DropsReady offered id fault

-- why a, the operation of line n, is not taken; want of memory may come with any
abbrev pub RefusesOp : ℕ → Op → ReplicaState → ReadingError → Type 0
RefusesOp n a x (reading.Line m cause.Clash) = (m ≡ n) × IsClash x.held x.ops a
RefusesOp n a x (reading.Line m other) = ⊥
RefusesOp n a x (reading.Dropped id fault) = DropsBehind a x id fault
RefusesOp n a x reading.OutOfMemory = ⊤

-- these operations were taken: the replica has them, and no others
pub record HasTaken (ops : List Op) (x : ReplicaState) : Type 0 where
  pub one : AreOneById ops
  pub all : (a : Op) → Contains ops a ↔ HasOrHolds x a
  pub others : HoldsOthers x
  pub accepted : AreAccepted x.ops
  pub valid : IsValid x.ops
