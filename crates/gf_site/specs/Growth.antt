-- A history that goes on (this project's choice).
use Rattle.std.specs.Prelude.{◌≡◌, List, ◌++◌}
use Rattle.gf_ops.specs.declared.op.Op.{Op}

-- the history new has the operations of old, and others behind them
pub record Grows (old new : List Op) : Type 0 where
  pub more : List Op
  pub whole : new ≡ old ++ more
