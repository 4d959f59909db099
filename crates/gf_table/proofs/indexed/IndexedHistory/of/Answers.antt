use Rattle.std.proofs.Common.{sym, subst, ◌∙◌}
use Rattle.gf_ops.specs.Accepted.{AreAccepted, IsAccepted}
use Rattle.gf_ops.proofs.AcceptedLemmas.{accepted_at}
use Rattle.gf_table.proofs.indexed.IndexedHistory.of.Goals as goal

pub add-requires-clause-accepted : goal.add-requires-clause-accepted
add-requires-clause-accepted c =
    let run = subst AreAccepted (sym c.ops-op-items.ensures.ops) c.ops-op-items.ensures.accepted in
    let at = accepted_at run c.loop-op.op-index c.op-item.result c.loop-op-test.true in
    subst (λ h. IsAccepted h c.in_ok-copy.field-0) (sym c.loop-op.invariant)
    (subst (IsAccepted _) (sym (c.in_ok-copy.ensures ∙ c.op-item.is)) at.accepted)
