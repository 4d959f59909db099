use Rattle.std.proofs.Common.{take}
use Rattle.gf_status.proofs.StatusLemmas.{AreStatusesOf}
use Rattle.gf_status.proofs.objects.object_statuses.Given as goal

abbrev pub invariant-loop-id : goal.invariant-loop-id
invariant-loop-id l = AreStatusesOf l.versions (take l.id-index l.id-items) l.found.items
