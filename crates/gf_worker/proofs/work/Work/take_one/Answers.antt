use Rattle.std.proofs.Common.{◌<◌, [], ◌∷◌, ◌++◌, true, true≢false, length, rules, sym, ap, subst}
use Rattle.std.specs.Vec.{with_item}
use Rattle.gf_worker.specs.Messages.{op_in}
use Rattle.gf_worker.specs.Working.{Continues}
use Rattle.gf_worker.proofs.PeerLemmas.{takes_more, takes_none, set_itself}
use Rattle.gf_worker.proofs.HearLemmas.{continues_hearing, continues_peers, hears_none}
use Rattle.gf_worker.proofs.work.Work.take_one.Goals as goal

pub returns-in-Op-clause-continues : goal.returns-in-Op-clause-continues
returns-in-Op-clause-continues g c =
    let w = c.args.self.now in
    let l : c.args.k < length w.peers.items = search rules in
    let come = c.in-Op.op ∷ [] in
    let more = takes_more w.peers.items c.args.k c.index_mut-peer.result.now c.take_from.new.peer
    c.in-Some.message come l c.index_mut-peer.ensures.value c.if-ended.ensures c.in-Some.ensures
    (ap (λ m. op_in m ++ []) c.in-Op.is) in
    let now = c.receive.new.self in
    subst (Continues w) (sym c.receive.ensures.same)
    (continues_hearing w (with_item w.peers c.args.k c.take_from.new.peer) come now.short
    now.site.held more c.receive.ensures.short c.receive.ensures.hears)

pub returns-then-ended-clause-continues : goal.returns-then-ended-clause-continues
returns-then-ended-clause-continues g c =
    let w = c.args.self.now in
    let p = c.index_mut-peer.result.now in
    continues_peers w (with_item w.peers c.args.k p)
    (set_itself w.peers.items c.args.k p (sym c.index_mut-peer.ensures.value))

pub returns-in_default-clause-continues : goal.returns-in_default-clause-continues
returns-in_default-clause-continues g c =
    let w = c.args.self.now in
    let l : c.args.k < length w.peers.items = search rules in
    let more = takes_none w.peers.items c.args.k c.index_mut-peer.result.now c.take_from.new.peer l
    c.index_mut-peer.ensures.value c.if-ended.ensures c.in_default.ensures in
    continues_hearing w (with_item w.peers c.args.k c.take_from.new.peer) [] w.short w.site.held
    more (λ e. e) (hears_none _ _ _ _)

pub returns-in-End-clause-continues : goal.returns-in-End-clause-continues
returns-in-End-clause-continues g c =
    let w = c.args.self.now in
    let l : c.args.k < length w.peers.items = search rules in
    let more = takes_more w.peers.items c.args.k c.index_mut-peer.result.now c.take_from.new.peer
    c.in-Some.message [] l c.index_mut-peer.ensures.value c.if-ended.ensures c.in-Some.ensures
    (ap (λ m. op_in m ++ []) c.in-End.is) in
    continues_hearing w (with_item w.peers c.args.k c.take_from.new.peer) [] w.short w.site.held
    more (λ e. e) (hears_none _ _ _ _)

pub returns-in-Stop-clause-continues : goal.returns-in-Stop-clause-continues
returns-in-Stop-clause-continues g c =
    let w = c.args.self.now in
    let l : c.args.k < length w.peers.items = search rules in
    let more = takes_more w.peers.items c.args.k c.index_mut-peer.result.now c.take_from.new.peer
    c.in-Some.message [] l c.index_mut-peer.ensures.value c.if-ended.ensures c.in-Some.ensures
    (ap (λ m. op_in m ++ []) c.in-Stop.is) in
    continues_hearing w (with_item w.peers c.args.k c.take_from.new.peer) [] true w.site.held more
    (λ e. absurd (true≢false e)) (hears_none _ _ _ _)
