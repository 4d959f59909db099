use Rattle.std.proofs.Common.{◌∙◌, ap, Some}
use Rattle.gf_edit.specs.MadeOperations.{made_until}
use Rattle.gf_take_run.proofs.TakeLemmas.{told_more}
use Rattle.gf_take_run.proofs.taking.made_of.Goals as goal

pub loop-op-preserved : goal.loop-op-preserved
loop-op-preserved c =
    let a = c.op-item.result in
    ap Some (c.until.ensures ∙ ap (λ m. made_until m a.id) c.loop-op.invariant)
    ∙ told_more c.args.ops.now c.loop-op.op-index a c.loop-op-test.true c.op-item.is
