-- The place at which a FIG text begins. No public clause cites this module.
use Rattle.std.specs.Prelude.{ℕ, ◌≤◌, List}
use Rattle.gf_take_run.specs.Parting.{BeginsFig}

-- n is the first place at which a FIG text begins
pub record IsFigStart (text : List ℕ) (n : ℕ) : Type 0 where
  pub begins : BeginsFig text n
  pub first : (m : ℕ) → BeginsFig text m → n ≤ m
