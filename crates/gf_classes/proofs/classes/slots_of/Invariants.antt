use Rattle.gf_classes.specs.ClassSlots.{AreSlots}
use Rattle.gf_classes.proofs.classes.slots_of.Given as goal

abbrev pub invariant-loop-index : goal.invariant-loop-index
invariant-loop-index l = AreSlots l.history.ops l.positions l.direct l.joints l.slots.items l.index
