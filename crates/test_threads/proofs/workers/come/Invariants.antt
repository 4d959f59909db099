use Rattle.gf_worker.specs.Peers.{StandsInTable}
use Rattle.test_threads.proofs.workers.come.Given as goal

-- the peer's links stand at its indices in the table
abbrev pub invariant-loop : goal.invariant-loop
invariant-loop g l = StandsInTable l.links l.peer
