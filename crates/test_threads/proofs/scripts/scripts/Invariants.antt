use Rattle.std.proofs.Common.{◌≤◌, All}
use Rattle.std.specs.Prelude.{vec_len}
use Rattle.test_threads.proofs.scripts.scripts.Given as goal

-- the scripts so far are not long
abbrev pub invariant-loop-part : goal.invariant-loop-part
invariant-loop-part l =
    goal.iterator-loop-part.can_next l.part-iterator ×
    goal.iterator-loop-part.is_finite l.part-iterator ×
    All (λ s. vec_len s.0 ≤ 1000) l.scripts.items
