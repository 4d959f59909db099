use Rattle.std.proofs.Common.{ℕ, ◌<◌, ◌≤◌}
use Rattle.gf_ops.specs.OperationOrder.{count_of, entry}
use Rattle.gf_take_run.proofs.knowing.check_known.Given as goal

-- the sites so far have all that the drawing knew
abbrev pub invariant-loop-other : goal.invariant-loop-other
invariant-loop-other l = (t : ℕ) → 1 ≤ t → t < l.other → entry l.knew t ≤ count_of l.history.ops t
