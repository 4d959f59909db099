use Rattle.gf_take_run.proofs.TakeLemmas.{written_more}
use Rattle.gf_take_run.proofs.taking.lines_of.Goals as goal

pub loop-op-preserved : goal.loop-op-preserved
loop-op-preserved c =
    written_more c.args.ops.now c.loop-op.op-index c.op-item.result c.loop-op.text.items
    c.push_line.new.text.items c.loop-op-test.true c.op-item.is c.loop-op.invariant
    c.in_ok-push_line.ensures.text c.in_ok-push_line.ensures.reads
