use Rattle.std.proofs.lemmas.List.Edits.{map_over_more}
use Rattle.gf_link.specs.declared.message.Message.TheVariants as message
use Rattle.gf_worker.specs.Peers.{with_message}
use Rattle.gf_worker.proofs.sending.send_all.Goals as goal

pub loop-peer-preserved : goal.loop-peer-preserved
loop-peer-preserved g c =
    rw (c.send_to.ensures, c.in-Ok.ensures, ← c.peer-item.is)
    (map_over_more (with_message (message.Op c.args.op.now)) c.args.peers.now c.loop-peer.peers
    c.loop-peer.peer-index c.peer-item.result c.loop-peer-test.true c.loop-peer.invariant
    c.peer-item.is)
