use Rattle.std.proofs.Common.{◌≡◌}
use Rattle.test_threads.proofs.links.send_all.Given as goal

-- the seat stays that of the link
abbrev pub invariant-loop-word : goal.invariant-loop-word
invariant-loop-word g l =
    (goal.iterator-loop-word g).can_next l.word-iterator ×
    (goal.iterator-loop-word g).is_finite l.word-iterator ×
    (l.seat.link ≡ l.link)
