use Rattle.std.proofs.Common.{◌≢◌, ◌≤◌, ◌<◌, ℕ}
use Rattle.gf_ops.specs.OperationOrder.{entry, count_of}
use Rattle.gf_causal.proofs.ready.knows_no_more.Given as goal

abbrev pub invariant-loop-site : goal.invariant-loop-site
invariant-loop-site l = (s : ℕ) → 1 ≤ s → s < l.site → s ≢ l.op.id.site
    → entry l.op.past s ≤ count_of l.history.ops s
