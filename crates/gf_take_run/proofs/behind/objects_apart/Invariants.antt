use Rattle.std.proofs.Common.{take}
use Rattle.gf_take_run.proofs.JoinedLemmas.{AreToldApart}
use Rattle.gf_take_run.proofs.behind.objects_apart.Given as goal

abbrev pub invariant-loop-op : goal.invariant-loop-op
invariant-loop-op l = AreToldApart l.base.ops l.objects.items (take l.op-index l.history.ops)
