use Rattle.gf_worker.specs.Peers.{StandsInTable}
use Rattle.test_threads.proofs.workers.send_all.Given as goal

-- the peer's links stand at its indices in the table
abbrev pub invariant-loop-word : goal.invariant-loop-word
invariant-loop-word g l =
    (goal.iterator-loop-word g).can_next l.word-iterator ×
    (goal.iterator-loop-word g).is_finite l.word-iterator ×
    StandsInTable l.links l.peer
