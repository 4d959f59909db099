use Rattle.std.proofs.Common.{◌≤◌, length, take}
use Rattle.gf_kept.specs.Gathered.{AreItemsOf}
use Rattle.gf_kept.specs.Keeping.{Keeps}
use Rattle.gf_kept.proofs.kept.KeptVersions.all.Given as goal

abbrev pub invariant-loop-op : goal.invariant-loop-op
invariant-loop-op l = record {
  keeps : Keeps l.versions l.self;
  items : AreItemsOf l.versions (take l.op-index l.versions) l.items.items;
  few : length l.items.items ≤ l.most;
}
