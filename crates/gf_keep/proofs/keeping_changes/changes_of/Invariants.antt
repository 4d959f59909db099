use Rattle.std.proofs.Common.{take}
use Rattle.gf_keep.specs.KeepSteps.{AreShowings}
use Rattle.gf_keep.proofs.keeping_changes.changes_of.Given as goal

abbrev pub invariant-loop-group : goal.invariant-loop-group
invariant-loop-group l = AreShowings l.history.ops l.object (take l.group-index l.groups)
    l.changes.items
