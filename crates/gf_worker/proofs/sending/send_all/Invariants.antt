use Rattle.std.proofs.Common.{◌≡◌, ◌++◌, map, take, drop}
use Rattle.gf_link.specs.declared.message.Message.TheVariants as message
use Rattle.gf_worker.specs.Peers.{with_message}
use Rattle.gf_worker.proofs.sending.send_all.Given as goal

abbrev pub invariant-loop-peer : goal.invariant-loop-peer
invariant-loop-peer g l = l.peers ≡ map (with_message (message.Op l.op))
    (take l.peer-index l.initial.peers) ++ drop l.peer-index l.initial.peers
