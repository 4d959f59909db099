use Rattle.std.proofs.Common.{rules, sym, ap, ◌∙◌, subst}
use Rattle.std.specs.Prelude.{IsTrue}
use Rattle.gf_link.specs.Ends.{is_ended}
use Rattle.gf_link.proofs.RuleLemmas.{merges, totals}
use Rattle.gf_link.proofs.SeatLemmas.{whole}
use Rattle.gf_link.proofs.link.settle.Goals as goal

pub absorb-requires-clause-rule : goal.absorb-requires-clause-rule
absorb-requires-clause-rule g c = merges _ _ _ _ (search rules) (search rules)

pub learn_as-requires-clause-rule : goal.learn_as-requires-clause-rule
learn_as-requires-clause-rule g c = totals _ _ (search rules) (search rules)

pub returns-clause-whole : goal.returns-clause-whole
returns-clause-whole g c =
    let all = c.learn_as.ensures.rule in
    let taken = ap (λ s. s.taken) c.take.view_is in
    let sent = ap (λ s. s.sent) c.send.view_is in
    λ ended. sym taken ∙ whole _ _ _ all.0 c.absorb.ensures.rule all.1.0 all.1.1
    (subst (λ xs. IsTrue (is_ended xs)) (sym taken) ended) ∙ sent
