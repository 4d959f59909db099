use Rattle.gf_ops.specs.declared.op.Op.{Op}
use Rattle.gf_take_run.specs.LeavingSteps.{IsMeant}
use Rattle.gf_take_run.proofs.LeavingLemmas.{all_more, left_all}
use Rattle.gf_take_run.proofs.leaving.leave_standing.Goals as goal

pub loop-op-preserved : goal.loop-op-preserved
loop-op-preserved c =
    let d = c.args.drawn.now.drawing in
    let names = c.args.drawn.now.names.items in
    let shown = c.args.shown.now in
    all_more (λ (a : Op). IsMeant d names shown c.args.own.now a.change) c.args.ops.now
    c.loop-op.op-index c.op-item.result c.loop-op-test.true c.op-item.is c.loop-op.invariant
    (c.in_ok-is_meant.ensures c.if-not-branch.false)

pub returns : goal.returns
returns c = λ h fig ranked named reads e.
    left_all h fig c.args.drawn.now.drawing c.args.drawn.now.names.items c.args.shown.now
    c.args.own.now ranked named reads c.args.ops.now c.loop-op.op-index c.loop-op-test.false
    c.loop-op.invariant
