use Rattle.std.proofs.Common.{◌≢◌, ℕ, ◌<◌, ◌≤◌}
use Rattle.gf_ops.specs.OperationOrder.{entry}
use Rattle.gf_take_run.proofs.knowing.first_beyond.Given as goal

-- the other sites so far are counted
abbrev pub invariant-loop-other : goal.invariant-loop-other
invariant-loop-other l = (t : ℕ) → 1 ≤ t → t < l.other → t ≢ l.site
    → entry l.past t ≤ entry l.known t
