use Rattle.std.proofs.Common.{◌≡◌, ◌++◌, map, take, drop}
use Rattle.gf_worker.specs.Peers.{with_last}
use Rattle.gf_worker.proofs.sending.send_last.Given as goal

abbrev pub invariant-loop-peer : goal.invariant-loop-peer
invariant-loop-peer g l = l.peers ≡ map (with_last l.short)
    (take l.peer-index l.initial.peers) ++ drop l.peer-index l.initial.peers
