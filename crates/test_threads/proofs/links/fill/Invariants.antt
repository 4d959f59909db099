use Rattle.std.proofs.Common.{◌≡◌}
use Rattle.test_threads.proofs.links.fill.Given as goal

-- the seat stays that of the link
abbrev pub invariant-loop-n : goal.invariant-loop-n
invariant-loop-n g l = l.seat.link ≡ l.link
