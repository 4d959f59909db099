use Rattle.gf_ops.specs.declared.op.Op.{Op}
use Rattle.gf_take_run.specs.ShownItems.{IsOnOne}
use Rattle.gf_take_run.proofs.LeavingLemmas.{all_more}
use Rattle.gf_take_run.proofs.ShownLemmas.{all_on_shown}
use Rattle.gf_take_run.proofs.showing.are_on_shown.Goals as goal

pub returns : goal.returns
returns c = λ h ranked e. all_on_shown h c.args.shown.now c.args.fig.now ranked c.args.ops.now
    c.loop-op.op-index c.loop-op-test.false c.loop-op.invariant

pub loop-op-preserved : goal.loop-op-preserved
loop-op-preserved c =
    all_more (λ (a : Op). IsOnOne c.args.shown.now c.args.fig.now a.change) c.args.ops.now
    c.loop-op.op-index c.op-item.result c.loop-op-test.true c.op-item.is
    c.loop-op.invariant
    (c.is_on_shown.ensures c.args.fig.now c.in_ok-named.ensures c.if-not-is_on_shown.false)
