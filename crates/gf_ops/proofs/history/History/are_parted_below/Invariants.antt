use Rattle.gf_ops.specs.AimWalk.{ArePartedBelow}
use Rattle.gf_ops.proofs.history.History.are_parted_below.Given as goal

abbrev pub invariant-loop-other : goal.invariant-loop-other
invariant-loop-other l = ArePartedBelow l.self.ops l.ids l.site l.other
