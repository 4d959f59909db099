-- A history as its callers see it (this project's choice).
use Rattle.std.specs.Prelude.{ℕ, List}
use Rattle.gf_ops.specs.declared.op.Op.{Op}

-- the operations in the order of adding, and for how many more at least there is memory
pub record HistoryState : Type 0 where
  pub ops : List Op
  pub room : ℕ
