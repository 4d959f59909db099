use Rattle.std.proofs.Common.{◌<◌, List, length, sym, ap, subst, ◌∙◌, arith}
use Rattle.gf_worker.specs.declared.peer.Peer.{Peer}
use Rattle.gf_mesh.specs.Linked.{rows_of}
use Rattle.gf_mesh.proofs.MeetingLemmas.{AreMeeting, new_linked}
use Rattle.gf_mesh.proofs.RowLemmas.{joined_more, one_joined}
use Rattle.gf_mesh.proofs.joining.Mesh.new.Goals as goal

pub loop-other-init : goal.loop-other-init
loop-other-init g c = subst
    (λ (u : List (List Peer) × List Peer). AreMeeting c.loop.counter 0 c.loop.links.items u.0 u.1)
    (λ i. (
      rows_of (sym c.deref_mut-other-items.ensures.value i),
      sym c.new-row.ensures.items i,
    )) c.loop.invariant.0

pub loop-other-preserved : goal.loop-other-preserved
loop-other-preserved g c =
    let l = c.loop-other in
    let within : l.other-index < length l.other-items = omega
    (arith, c.loop-other-test.true, l.auto.other-items) in
    joined_more c.loop.counter l.other-index l.links.items c.connect.new.links.items l.other-items
    l.row.items c.push-in-loop-other.new.self.items c.other-item.result c.push.new.self
    c.in_ok-theirs.theirs c.in_ok-theirs.mine l.invariant within c.other-item.is
    c.in_ok-push.ensures.items c.in_ok-push-2.ensures.items c.in_ok-theirs.ensures

pub loop-preserved : goal.loop-preserved
loop-preserved g c =
    let l = c.loop-other in (
      one_joined c.loop.counter l.other-index l.links.items c.loop.peers c.push-in-loop.new.self
          l.other-items l.row l.invariant (omega (
            arith,
            c.loop-other-test.false,
            l.auto.other-items,
            l.auto.other-index-end,
            c.deref_mut-other-items.ensures.len,
            c.loop.invariant.1,
          ))
          (l.auto.other-items ∙ ap length c.deref_mut-other-items.ensures.value)
          c.in_ok-push-3.ensures.items,
      omega (arith, c.in_ok-push-3.ensures.len, c.loop.invariant.1),
    )

pub returns-clause-linked : goal.returns-clause-linked
returns-clause-linked g c = (new_linked c.loop.counter c.loop.links.items
    (rows_of c.loop.peers.items) c.loop.invariant.0).0

pub returns-clause-fresh : goal.returns-clause-fresh
returns-clause-fresh g c = (new_linked c.loop.counter c.loop.links.items
    (rows_of c.loop.peers.items) c.loop.invariant.0).1
