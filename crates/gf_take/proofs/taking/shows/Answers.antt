use Rattle.std.proofs.Common.{◌≡◌, true, false, sym, ◌∙◌}
use Rattle.gf_take.proofs.ExactLemmas.{drawing_is_shown}
use Rattle.gf_take.proofs.MatchLemmas.{shown_colours, shown_drawing}
use Rattle.gf_take.proofs.taking.shows.Goals as goal

pub returns-clause-shows : goal.returns-clause-shows
returns-clause-shows c = λ h valid ranked e.
    shown_drawing h c.args.drawing.now c.args.items.now valid ranked
    (c.in_ok-show_figures.ensures.0 e)

pub returns-clause-paints : goal.returns-clause-paints
returns-clause-paints c = λ h valid ranked e.
    shown_colours h c.args.drawing.now c.args.items.now valid ranked
    (c.in_ok-show_figures.ensures.0 e)

pub returns-clause-other : goal.returns-clause-other
returns-clause-other c = λ h ranked lawful e s.
    let shown = drawing_is_shown h c.args.drawing.now c.args.items.now ranked lawful s in
    let none : false ≡ true = sym e ∙ c.in_ok-show_figures.ensures.1 shown in absurd cc
