use Rattle.std.proofs.Common.{ℕ, List, length}
use Rattle.std.specs.Prelude.{Option}
use Rattle.gf_check.specs.CheckedLines.{IsStepping}
use Rattle.gf_check.proofs.lines.step_all.Given as goal

abbrev pub invariant-loop-id : goal.invariant-loop-id
invariant-loop-id l = (editor : Option ℕ) (bytes : List ℕ) (left : List (ℕ × List ℕ))
    → IsStepping editor bytes left l.initial.replica l.initial.telling
    → IsStepping editor bytes left l.replica l.telling

abbrev pub decreases-loop-id : goal.decreases-loop-id
decreases-loop-id l = length l.replica.held
