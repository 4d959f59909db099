use Rattle.std.proofs.Common.{Bor, ◌∙◌, sym}
use Rattle.gf_ops.specs.declared.op.Op.{Op}
use Rattle.gf_edit.specs.Waiting.{is_blocking}
use Rattle.gf_edit.proofs.BlockingLemmas.{found_here, passed_here}
use Rattle.gf_edit.proofs.waiting.first_blocking.Goals as goal

pub returns-then-is_blocking : goal.returns-then-is_blocking
returns-then-is_blocking c =
    found_here (λ (a : Bor Op). a.now) (is_blocking c.args.editor c.args.history.now.ops)
    c.args.ops.now c.loop-op.op-index c.op-item.result
    c.loop-op-test.true c.op-item.is c.loop-op.invariant (sym c.is_blocking.ensures
    ∙ c.if-is_blocking.true)

pub loop-op-preserved : goal.loop-op-preserved
loop-op-preserved c =
    passed_here (λ (a : Bor Op). a.now) (is_blocking c.args.editor c.args.history.now.ops)
    c.args.ops.now c.loop-op.op-index c.op-item.result
    c.loop-op-test.true c.op-item.is c.loop-op.invariant (sym c.is_blocking.ensures
    ∙ c.if-is_blocking.false)
