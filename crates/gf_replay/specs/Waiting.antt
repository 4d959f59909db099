-- What waits behind the history that lines denote (this project's choice, over causal delivery).
use Rattle.std.specs.Prelude.{◌↔◌, ℕ, List, Contains}
use Rattle.std.specs.List.Sorted.{IsStrictlySortedBy}
use Rattle.gf_streams.specs.TextLines.{numbered_lines}
use Rattle.gf_ops.specs.declared.op.Op.{Op}
use Rattle.gf_ops.specs.OperationOrder.{id_cmp}
use Rattle.gf_causal.specs.HeldOperations.{ids_of}
use Rattle.gf_replay.specs.Denoting.{AreLinesOf, Delivers}

-- the waiting operations are all of ops that h lacks, each once, rising by id
pub record AreWaiting (ops h waiting : List Op) : Type 0 where
  pub exactly : (a : Op) → Contains waiting a ↔ (Contains ops a × (¬ (Contains h a)))
  pub rising : IsStrictlySortedBy id_cmp (ids_of waiting)

-- the lines of the bytes denote operations that deliver the history, and the others are waiting
pub record DenotesWaiting (bytes : List ℕ) (history waiting : List Op) : Type 0 where
  pub ops : List Op
  pub lines : AreLinesOf (numbered_lines bytes) ops
  pub delivers : Delivers ops history
  pub others : AreWaiting ops history waiting
