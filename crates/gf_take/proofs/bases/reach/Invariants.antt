use Rattle.std.proofs.Common.{take}
use Rattle.gf_take.specs.Reaching.{AreReached}
use Rattle.gf_take.proofs.bases.reach.Given as goal

abbrev pub invariant-loop-op : goal.invariant-loop-op
invariant-loop-op l = AreReached l.site l.known (take l.op-index l.ops) l.reach
