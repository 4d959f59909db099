use Rattle.std.proofs.Common.{◌≡◌, true, false, sym, ◌∙◌}
use Rattle.gf_take.proofs.ExactLemmas.{look_is_traced}
use Rattle.gf_take.proofs.MatchLemmas.{traced_look}
use Rattle.gf_take.proofs.taking.looks_like.Goals as goal

pub returns-clause-alike : goal.returns-clause-alike
returns-clause-alike c = λ h valid ranked e.
    traced_look h c.args.drawing.now c.args.items.now valid ranked
    (c.in_ok-look_alike.ensures.0 e)

pub returns-clause-other : goal.returns-clause-other
returns-clause-other c = λ h ranked lawful e s.
    let traced = look_is_traced h c.args.drawing.now c.args.items.now ranked lawful s in
    let none : false ≡ true = sym e ∙ c.in_ok-look_alike.ensures.1 traced in absurd cc
