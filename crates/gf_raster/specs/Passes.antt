-- Columns for whose tiles a gate was passed. No public clause cites this module.
use Rattle.std.specs.Prelude.{ℕ}

-- len columns, from a first one on
pub record PassView : Type 0 where
  pub from : ℕ
  pub len : ℕ
