use Rattle.std.proofs.Common.{◌≤◌, length, take}
use Rattle.gf_visible.specs.VisibleSoFar.{AreVisibleOf}
use Rattle.gf_visible.proofs.ranking.all_visible.Given as goal

abbrev pub invariant-loop-op : goal.invariant-loop-op
invariant-loop-op l = record {
  visible : AreVisibleOf l.versions (take l.op-index l.versions) l.groups.items;
  few : length l.groups.items ≤ l.most;
}
