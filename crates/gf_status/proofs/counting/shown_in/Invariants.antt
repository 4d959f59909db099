use Rattle.std.proofs.Common.{◌≡◌, ◌+◌, take}
use Rattle.std.specs.List.{fold}
use Rattle.gf_listing.specs.Counting.{capped}
use Rattle.gf_status.specs.declared.objects.ObjectStatus.{ObjectStatus}
use Rattle.gf_status.proofs.counting.shown_in.Given as goal

abbrev pub invariant-loop-status : goal.invariant-loop-status
invariant-loop-status l = l.count ≡ fold (λ n (s : ObjectStatus). capped (n + s.shown)) 0
    (take l.status-index l.statuses)
