use Rattle.std.proofs.Common.{ℕ, All, filter, not, ◌+◌, ◌<◌, ◌∙◌, subst, sym}
use Rattle.std.proofs.lemmas.List.Elements.{All-append, All-filter, All-get_or}
use Rattle.gf_visible.specs.Choices.{hiding_first}
use Rattle.gf_visible.proofs.setters.steps_of.Goals as goal

pub step_of-requires-clause-fits : goal.step_of-requires-clause-fits
step_of-requires-clause-fits g c =
    let P : ℕ → Type 0 = λ n. n + 1 < 18446744073709551616 in
    let hides = g.T.Showing.hides c.args.setters.now in
    let us = c.args.positions.now in
    let all : All P (hiding_first hides us) =
    All-append P (filter hides us) (filter (λ x. not (hides x)) us)
    (All-filter hides P us c.requires.bounded)
    (All-filter (λ x. not (hides x)) P us c.requires.bounded) in
    All-get_or P c.deref-position-items.result.now c.loop-position.position-index 0
    c.loop-position-test.true
    (subst (All P) (sym (c.deref-position-items.ensures.value ∙ c.in_ok-order.ensures)) all)
