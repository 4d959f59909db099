use Rattle.std.proofs.Common.{ap, sym, subst}
use Rattle.gf_ops.specs.Accepted.{IsAccepted}
use Rattle.gf_site.specs.ReplicaState.{ReplicaState}
use Rattle.gf_site.proofs.GrowthLemmas.{accepted_behind}
use Rattle.gf_site.proofs.replica.Replica.add_all.Goals as goal

pub add-requires-clause-accepted : goal.add-requires-clause-accepted
add-requires-clause-accepted c =
    subst (λ h. IsAccepted h c.in_ok-copy.copy)
    (sym (ap (λ (x : ReplicaState). x.ops) c.loop-op.invariant))
    (subst (IsAccepted _) (sym c.in_ok-copy.ensures)
    (accepted_behind c.args.self.now.ops c.args.ops.now c.requires.accepted
    c.loop-op.op-index c.op-item.result c.loop-op-test.true c.op-item.is))
