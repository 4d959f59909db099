use Rattle.gf_classes.specs.ClassSlots.{AreMembers}
use Rattle.gf_classes.proofs.classes.members_of.Given as goal

abbrev pub invariant-loop-index : goal.invariant-loop-index
invariant-loop-index l = AreMembers l.positions l.slots l.index l.count l.members.items
