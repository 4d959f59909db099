use Rattle.std.proofs.Common.{take}
use Rattle.gf_versions.specs.ListedVersions.{AreSettled}
use Rattle.gf_versions.proofs.settling.settle_all.Given as goal

-- the groups so far have their versions
abbrev pub invariant-loop-group : goal.invariant-loop-group
invariant-loop-group l = AreSettled l.history.ops (take l.group-index l.groups) l.versions.items
