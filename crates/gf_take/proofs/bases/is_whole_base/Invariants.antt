use Rattle.std.proofs.Common.{◌≢◌, ℕ, ◌<◌, ◌≤◌}
use Rattle.gf_ops.specs.OperationOrder.{count_of, entry}
use Rattle.gf_take.proofs.bases.is_whole_base.Given as goal

-- of the other sites so far, the clock counts all operations
abbrev pub invariant-loop-of : goal.invariant-loop-of
invariant-loop-of l = (t : ℕ) → 1 ≤ t → t < l.of → t ≢ l.site
    → count_of l.history.ops t ≤ entry l.known t
