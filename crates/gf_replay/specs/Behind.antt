-- A replica that goes on: what it was given, and what lines behind that make of it (this project's
-- choice, over causal delivery).
use Rattle.std.specs.Prelude.{ℕ, List, ◌++◌}
use Rattle.gf_streams.specs.TextLines.{numbered_lines}
use Rattle.gf_ops.specs.declared.op.Op.{Op}
use Rattle.gf_causal.specs.Ready.{NoneIsReady}
use Rattle.gf_site.specs.ReplicaState.{ReplicaState}
use Rattle.gf_replay.specs.Denoting.{AreLinesOf, Delivers}
use Rattle.gf_replay.specs.Taking.{HasTaken}
use Rattle.gf_replay.specs.Waiting.{AreWaiting}

-- the replica was given these operations, and none that it holds is ready
pub record HasDelivered (ops : List Op) (x : ReplicaState) : Type 0 where
  pub taken : HasTaken ops x
  pub none : NoneIsReady x.ops x.held

-- the lines of the bytes denote operations, which the replica was given behind the known ones
pub record DeliversLines (known : List Op) (bytes : List ℕ) (x : ReplicaState) : Type 0 where
  pub ops : List Op
  pub lines : AreLinesOf (numbered_lines bytes) ops
  pub delivered : HasDelivered (known ++ ops) x

-- the operations deliver the history, and the others of them wait behind it
pub record Divides (ops history waiting : List Op) : Type 0 where
  pub delivers : Delivers ops history
  pub others : AreWaiting ops history waiting
