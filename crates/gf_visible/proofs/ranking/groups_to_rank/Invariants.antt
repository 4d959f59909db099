use Rattle.std.proofs.Common.{take}
use Rattle.gf_visible.specs.VisibleSoFar.{HaveVisibleOf}
use Rattle.gf_visible.proofs.ranking.groups_to_rank.Given as goal

abbrev pub invariant-loop-op : goal.invariant-loop-op
invariant-loop-op l = HaveVisibleOf l.versions (take l.op-index l.versions) l.groups.items
