use Rattle.std.proofs.Common.{[], ◌∷◌, sym, ap, subst, refl, ◌∙◌, ◌++◌}
use Rattle.std.specs.Vec.{with_items}
use Rattle.gf_json.specs.declared.scripts.Command.TheVariants.{Author}
use Rattle.std.specs.Prelude.{not}
use Rattle.gf_worker.specs.Playing.{PlaysOn}
use Rattle.gf_worker.proofs.AuthorLemmas.{plays_author, plays_refused, plays_unreserved}
use Rattle.gf_worker.proofs.AuthorLemmas.{sends_items}
use Rattle.gf_worker.proofs.work.Work.play_author.Goals as goal

pub returns-then-is_err : goal.returns-then-is_err
returns-then-is_err g c = plays_unreserved c.args.self.now
    (record { accepted = c.reserve.new.self; refused = c.args.self.now.report.refused })
    c.args.number (Author c.args.change) c.reserve.ensures.items refl c.requires.long

pub returns-in-Ok : goal.returns-in-Ok
returns-in-Ok g c =
    let w = c.args.self.now in
    plays_author w (record { accepted = c.push_reserved.new.self; refused = w.report.refused })
    c.args.number c.args.change c.in-Ok.op c.author.new.self
    (with_items w.peers c.send_all.new.peers) c.send_all.result c.requires.long c.in-Ok.ensures.ok
    c.recall_state.ensures.valid (c.push_reserved.ensures.items ∙ ap (λ l. l ++ c.in-Ok.op.id ∷ [])
    c.reserve.ensures.items) refl
    (sends_items c.in-Ok.op c.send_all.result w.peers c.deref_mut.result.now c.send_all.new.peers
    c.deref_mut.ensures.value c.send_all.ensures)

pub returns-in-Err : goal.returns-in-Err
returns-in-Err g c =
    let w = c.args.self.now in
    subst (λ s. PlaysOn c.args.number (Author c.args.change) w
    (record {
      site = s;
      peers = w.peers;
      report = c.report_fault.new.report;
      short = not c.report_fault.result;
    })) (sym c.in-Err.ensures.same)
    (plays_refused w (record { accepted = c.reserve.new.self; refused = w.report.refused })
    c.report_fault.new.report c.args.number c.args.change c.in-Err.fault c.report_fault.result
    c.requires.long c.reserve.ensures.items refl
    c.in-Err.ensures.err c.report_fault.ensures)
