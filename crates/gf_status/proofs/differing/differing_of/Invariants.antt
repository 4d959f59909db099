use Rattle.std.proofs.Common.{take}
use Rattle.gf_ops.specs.declared.op.ObjectId.{ObjectId}
use Rattle.gf_visible.specs.ShownVersions.{AreVisibleOn}
use Rattle.gf_status.specs.Differing.{AreDifferences}
use Rattle.gf_status.proofs.differing.differing_of.Given as goal

abbrev pub invariant-loop-attribute : goal.invariant-loop-attribute
invariant-loop-attribute l = (o : ObjectId) → AreVisibleOn l.history.ops o l.groups
    → AreDifferences l.history.ops o (take l.attribute-index l.attributes) l.found.items
