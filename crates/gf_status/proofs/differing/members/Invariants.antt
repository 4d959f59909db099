use Rattle.std.proofs.Common.{take}
use Rattle.gf_status.proofs.SetterLemmas.{AreUnder}
use Rattle.gf_status.proofs.differing.members.Given as goal

abbrev pub invariant-loop-id : goal.invariant-loop-id
invariant-loop-id l = AreUnder (λ a. a.now) l.history.ops (take l.id-index l.ids) l.found.items
