use Rattle.std.proofs.Common.{length, ◌-◌}
use Rattle.gf_ops.specs.AimWalk.{IsNoted}
use Rattle.gf_ops.proofs.history.History.note_unknowing.Given as goal

abbrev pub invariant-loop-noted : goal.invariant-loop-noted
invariant-loop-noted l = IsNoted l.self.ops l.ids l.site l.noted l.id l.table

abbrev pub decreases-loop-noted : goal.decreases-loop-noted
decreases-loop-noted l = length l.ids - l.noted
