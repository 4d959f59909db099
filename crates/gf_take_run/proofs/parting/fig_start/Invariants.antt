use Rattle.std.proofs.Common.{ℕ, ◌-◌, ◌≤◌, length}
use Rattle.gf_take_run.specs.Parting.{BeginsFig, IsLineStart}
use Rattle.gf_take_run.proofs.parting.fig_start.Given as goal

-- a line begins at the start, and no FIG text begins before it
abbrev pub invariant-loop-left : goal.invariant-loop-left
invariant-loop-left l = record {
  within : l.start ≤ length l.text;
  line : IsLineStart l.text l.start;
  none : (m : ℕ) → BeginsFig l.text m → l.start ≤ m;
}

abbrev pub decreases-loop-left : goal.decreases-loop-left
decreases-loop-left l = length l.text - l.start
