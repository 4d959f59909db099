use Rattle.std.proofs.Common.{refl, ap, ◌∙◌}
use Rattle.gf_visible.specs.Choices.{all_hold}
use Rattle.gf_visible.specs.PendingChoices.{ChoiceState}
use Rattle.gf_visible.proofs.SearchLemmas.{left_same}
use Rattle.gf_visible.proofs.searching.leave.Goals as goal

pub returns-else-all_hold-clause-leads : goal.returns-else-all_hold-clause-leads
returns-else-all_hold-clause-leads c =
    left_same c.args.steps.now c.args.left.now.items c.args.left.now.items c.args.choice refl
    (c.if-all_hold.ensures ∙ ap (λ (o : ChoiceState). all_hold c.args.steps.now o.possible)
    c.choice.view_is)
