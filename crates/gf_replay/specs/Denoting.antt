-- The history that operation lines denote (this project's choice, over causal delivery).
use Rattle.std.specs.Prelude.{◌≡◌, ℕ, List, map, Ok}
use Rattle.gf_streams.specs.TextLines.{numbered_lines}
use Rattle.gf_ops.specs.declared.op.Op.{Op}
use Rattle.gf_ops.specs.ValidHistory.{IsValid}
use Rattle.gf_causal.specs.DeliveredPart.{AreOneById, HaveSame, IsDeliveredPart}
use Rattle.gf_json.specs.OperationLines.{denoted}

-- the lines denote these operations, in their order
abbrev pub AreLinesOf : List (ℕ × List ℕ) → List Op → Type 0
AreLinesOf lines ops = map (λ (line : ℕ × List ℕ). denoted line.1) lines
    ≡ map Ok ops

-- of the operations equal ids are equal operations, and their delivered part is this valid history
pub record Delivers (ops history : List Op) : Type 0 where
  pub one : AreOneById ops
  pub delivered : IsDeliveredPart ops history
  pub valid : IsValid history

-- the lines of the bytes denote operations, and these deliver this history
pub record Denotes (bytes : List ℕ) (history : List Op) : Type 0 where
  pub ops : List Op
  pub lines : AreLinesOf (numbered_lines bytes) ops
  pub delivers : Delivers ops history

-- the lines of both denote operations, and these are the same, in whatever order and however often
pub record HaveSameOperations (bytes others : List ℕ) : Type 0 where
  pub ops : List Op
  pub lines : AreLinesOf (numbered_lines bytes) ops
  pub other_ops : List Op
  pub other_lines : AreLinesOf (numbered_lines others) other_ops
  pub same : HaveSame ops other_ops
