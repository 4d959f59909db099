use Rattle.std.proofs.lemmas.List.Edits.{map_over_more}
use Rattle.gf_worker.specs.Peers.{with_last}
use Rattle.gf_worker.proofs.sending.send_last.Goals as goal

pub loop-peer-preserved : goal.loop-peer-preserved
loop-peer-preserved g c =
    rw (c.end_one.ensures, ← c.peer-item.is)
    (map_over_more (with_last c.args.short) c.args.peers.now c.loop-peer.peers
    c.loop-peer.peer-index c.peer-item.result c.loop-peer-test.true c.loop-peer.invariant
    c.peer-item.is)
