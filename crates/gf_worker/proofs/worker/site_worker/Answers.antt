use Rattle.std.proofs.Common.{◌≤◌, false, subst}
use Rattle.std.specs.Vec.{with_items}
use Rattle.gf_worker.specs.declared.report.Report.{Report}
use Rattle.gf_worker.proofs.EndLemmas.{begins, opens, last_items, placed_last, has_worked}
use Rattle.gf_worker.proofs.worker.site_worker.Goals as goal

pub play_all-requires-clause-begun : goal.play_all-requires-clause-begun
play_all-requires-clause-begun g c =
    begins c.args.site c.args.ends.peers
    (record { accepted = c.new.result; refused = c.new-2.result }) c.requires.ops c.requires.held
    c.requires.fresh c.new.ensures.items c.new-2.ensures.items

pub send_last-requires-clause-still : goal.send_last-requires-clause-still
send_last-requires-clause-still g c =
    let r : Report = record { accepted = c.new.result; refused = c.new-2.result } in
    let begun = begins c.args.site c.args.ends.peers r c.requires.ops c.requires.held
    c.requires.fresh c.new.ensures.items c.new-2.ensures.items in
    opens c.args.script.0.items
    (record { site = c.args.site; peers = c.args.ends.peers; report = r; short = false })
    c.play_all.new.self begun c.play_all.ensures
    (subst (λ n. n ≤ 1000) c.args.script.0.ok.0 c.requires.few)
    c.deref_mut.result.now c.deref_mut.ensures.value

pub take_rest-requires : goal.take_rest-requires
take_rest-requires g c =
    let mid = c.play_all.new.self in
    placed_last c.args.ends.links.now c.args.script.0.items
    (record {
      site = c.args.site;
      peers = c.args.ends.peers;
      report = record { accepted = c.new.result; refused = c.new-2.result };
      short = false;
    }) mid
    (with_items mid.peers c.send_last.new.peers).items c.requires.placed c.play_all.ensures
    (last_items mid.peers mid.short c.deref_mut.result.now c.send_last.new.peers
    c.deref_mut.ensures.value c.send_last.ensures)

pub returns : goal.returns
returns g c =
    let r : Report = record { accepted = c.new.result; refused = c.new-2.result } in
    let begun = begins c.args.site c.args.ends.peers r c.requires.ops c.requires.held
    c.requires.fresh c.new.ensures.items c.new-2.ensures.items in
    let mid = c.play_all.new.self in
    has_worked c.args.script.0.items
    (record { site = c.args.site; peers = c.args.ends.peers; report = r; short = false }) mid
    (with_items mid.peers c.send_last.new.peers) c.take_rest.new.self begun c.play_all.ensures
    (last_items mid.peers mid.short c.deref_mut.result.now c.send_last.new.peers
    c.deref_mut.ensures.value c.send_last.ensures) c.take_rest.ensures.continues
    c.take_rest.ensures.ended c.take_rest.ensures.idle
    c.recall_state.ensures.valid
