use Rattle.std.proofs.Common.{◌++◌, sym, take}
use Rattle.gf_status.specs.KeptStatuses.{AreKept}
use Rattle.gf_serve.proofs.AnswerLemmas.{forgotten_more}
use Rattle.gf_serve.proofs.answering.forget_all.Goals as goal

pub loop-op-preserved : goal.loop-op-preserved
loop-op-preserved c = λ h valid run more longer kept.
    forgotten_more (λ k. AreKept k c.loop-op.statuses) (λ k. AreKept k c.forget.new.self) h
    c.args.ops.now c.loop-op.op-index c.op-item.result c.loop-op-test.true c.op-item.is more longer
    (c.loop-op.invariant h valid run more longer kept)
    (λ v w k. c.forget.ensures (h ++ take c.loop-op.op-index c.args.ops.now) c.op-item.result v w
    (sym c.object.ensures) k)
