use Rattle.std.proofs.Common.{◌++◌, sym, take}
use Rattle.gf_serve.specs.ServingSteps.{KeepsBoth}
use Rattle.gf_serve.proofs.AnswerLemmas.{forgotten_more}
use Rattle.gf_serve.proofs.kept.Kept.forget.Goals as goal

pub loop-op-preserved : goal.loop-op-preserved
loop-op-preserved c = λ h valid run more longer kept.
    let front = h ++ take c.loop-op.op-index c.args.ops.now in
    let a = c.op-item.result in
    forgotten_more (λ k. KeepsBoth k c.loop-op.self) (λ k. KeepsBoth k _) h c.args.ops.now
    c.loop-op.op-index a c.loop-op-test.true c.op-item.is more longer
    (c.loop-op.invariant h valid run more longer kept)
    (λ v w k. record {
      versions = c.forget.ensures front a v w (sym c.object.ensures) k.versions;
      statuses = c.forget-in-loop-op.ensures front a v w (sym c.object-in-loop-op.ensures) k.statuses;
    })
