use Rattle.std.proofs.Common.{take}
use Rattle.gf_take_run.specs.CountedChanges.{test_of}
use Rattle.gf_take_run.specs.ToldNumbers.{AreObjects}
use Rattle.gf_take_run.proofs.counting.objects_of.Given as goal

abbrev pub invariant-loop-op : goal.invariant-loop-op
invariant-loop-op l = AreObjects (test_of l.counted) (take l.op-index l.ops) l.objects.items
