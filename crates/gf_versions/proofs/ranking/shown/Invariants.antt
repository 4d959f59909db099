use Rattle.std.proofs.Common.{take}
use Rattle.gf_versions.specs.ListedVersions.{AreShown}
use Rattle.gf_versions.proofs.ranking.shown.Given as goal

abbrev pub invariant-loop-group : goal.invariant-loop-group
invariant-loop-group l = AreShown l.history.ops (take l.group-index l.groups) l.items.items
