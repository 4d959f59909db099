use Rattle.std.proofs.Common.{take}
use Rattle.gf_take_run.specs.CountedChanges.{test_of}
use Rattle.gf_take_run.proofs.CountingLemmas.{next}
use Rattle.gf_take_run.proofs.counting.objects_of.Goals as goal

pub loop-op-preserved : goal.loop-op-preserved
loop-op-preserved c =
    next (test_of c.args.counted) c.args.ops.now c.loop-op.op-index c.op-item.result
    c.push_object.new.objects.items c.loop-op-test.true c.op-item.is
    (c.in_ok-push_object.ensures (take c.loop-op.op-index c.args.ops.now) c.loop-op.invariant)
