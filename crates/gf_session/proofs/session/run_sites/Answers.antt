use Rattle.std.proofs.Common.{◌≡◌, false, sym, ap, subst, ◌∙◌}
use Rattle.std.specs.Prelude.{All}
use Rattle.std.specs.List.{list_any}
use Rattle.gf_worker.specs.declared.worker.WorkerEnd.{WorkerEnd}
use Rattle.gf_mesh.specs.Linked.{AreLinked, HaveEnded, rows_of}
use Rattle.gf_mesh.specs.Settled.{AreAllTaken}
use Rattle.gf_session.specs.Starting.{IsReadyToStart}
use Rattle.gf_session.specs.Session.{IsSession}
use Rattle.gf_session.proofs.SessionLemmas.{session_outcome}
use Rattle.gf_session.proofs.StartLemmas.{all_ready, all_ended, still_linked}
use Rattle.gf_session.proofs.session.run_sites.Goals as goal

pub fork-ends-requires-clause-ready : goal.fork-ends-requires-clause-ready
fork-ends-requires-clause-ready g c κs within =
    let sites = c.in_ok-sites.sites.items in
    let mesh = c.in_ok-mesh in
    subst (λ l. All (IsReadyToStart l) sites) (sym c.links.ensures)
    (all_ready mesh.mesh c.args.scripts.items (rows_of mesh.peers.items) sites mesh.ensures.linked
    mesh.ensures.fresh c.in_ok-sites.ensures c.requires.short)

pub settle-requires-clause-linked : goal.settle-requires-clause-linked
settle-requires-clause-linked g c =
    let mesh = c.in_ok-mesh in
    subst (AreLinked mesh.mesh) (sym c.in_ok-dones.ensures.peers)
    (still_linked mesh.mesh c.args.scripts.items (rows_of mesh.peers.items)
    c.in_ok-sites.sites.items c.fork-ends.result.items c.in_ok-sites.ensures
    c.fork-ends.ensures.gave mesh.ensures.linked)

pub settle-requires-clause-ended : goal.settle-requires-clause-ended
settle-requires-clause-ended g c =
    let long : list_any (λ (e : WorkerEnd). e.short) c.fork-ends.result.items ≡ false = ap
    (list_any (λ (e : WorkerEnd). e.short)) (sym c.deref.ensures.value) ∙ sym c.any_short.ensures
    ∙ c.if-any_short.false in
    subst HaveEnded (sym c.in_ok-dones.ensures.peers)
    (all_ended c.args.scripts.items (rows_of c.in_ok-mesh.peers.items) c.in_ok-sites.sites.items
    c.fork-ends.result.items c.in_ok-sites.ensures c.fork-ends.ensures.gave long)

pub returns : goal.returns
returns g c =
    let long : list_any (λ (e : WorkerEnd). e.short) c.fork-ends.result.items ≡ false = ap
    (list_any (λ (e : WorkerEnd). e.short)) (sym c.deref.ensures.value) ∙ sym c.any_short.ensures
    ∙ c.if-any_short.false in
    subst (IsSession c.args.scripts.items) (sym c.in_ok-dones.ensures.dones)
    (session_outcome c.args.scripts.items (rows_of c.in_ok-mesh.peers.items)
    c.in_ok-sites.sites.items c.fork-ends.result.items c.in_ok-sites.ensures
    c.fork-ends.ensures.gave long (subst AreAllTaken c.in_ok-dones.ensures.peers c.settle.ensures))
