use Rattle.std.proofs.Common.{◌<◌, length, sym, ap, ◌∙◌, subst}
use Rattle.std.specs.Prelude.{IsFalse}
use Rattle.gf_link.specs.Ends.{is_ended}
use Rattle.crossbeam_queue.specs.Passes.{view}
use Rattle.gf_link.proofs.RuleLemmas.{pushes, no_more}
use Rattle.gf_link.proofs.EndLemmas.{ended_last}
use Rattle.gf_link.proofs.SeatLemmas.{sender_more}
use Rattle.gf_link.proofs.link.Link.send.Goals as goal

pub push_as-requires-clause-rule : goal.push_as-requires-clause-rule
push_as-requires-clause-rule g c =
    let sent = ap (λ s. s.sent) c.seat.view_is in
    let may = ap (λ v. v.sends) c.seat.invariant.role in
    let room = subst (λ xs. length xs < 1024) (sym sent) c.requires.room in
    let still = subst (λ xs. IsFalse (is_ended xs)) (sym sent) c.requires.open in
    (pushes _ _ _ _ may room still, no_more _ _ may)

pub invariant_of-seat : goal.invariant_of-seat
invariant_of-seat g c =
    let sent = ap (λ s. s.sent) c.seat.view_is in
    let still = subst (λ xs. IsFalse (is_ended xs)) (sym sent) c.requires.open in
    rw c.is_end-ends.ensures (sender_more c.seat.inside c.push_as.new.pass c.args.message
    c.seat.invariant c.push_as.ensures.queue.2 still c.in-Ok.ensures.rule)

pub returns-clause-ended : goal.returns-clause-ended
returns-clause-ended g c =
    let sent = ap (λ s. s.sent) c.seat.view_is in
    let still = subst (λ xs. IsFalse (is_ended xs)) (sym sent) c.requires.open in
    ap (λ v. is_ended v.sent) c.in-Ok.ensures.rule ∙ ended_last (view c.seat.inside.pass).sent
    c.args.message still
