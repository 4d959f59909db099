use Rattle.std.proofs.Common.{rules, arith, ◌≡◌, ◌<◌, ◌≤◌, length, false, true, sym, ◌∙◌}
use Rattle.gf_take.specs.Matching.{IsTraced}
use Rattle.gf_take.proofs.MatchLemmas.{like_found, seen_all, seen_more}
use Rattle.gf_take.proofs.matching.first_like.Goals as goal

pub returns-then-branch-clause-some : goal.returns-then-branch-clause-some
returns-then-branch-clause-some c =
    let within : c.loop-position.position < length c.args.figures.now = search (rules, arith) in
    like_found (λ f. f.now) c.args.drawing.now.table c.args.outline.now c.args.colour
    c.args.figures.now c.loop-position.position c.index-figures-position.result within
    c.index-figures-position.is (c.in_ok-looks.ensures.0 c.if-branch.true) c.loop-position.invariant

pub loop-position-preserved : goal.loop-position-preserved
loop-position-preserved c =
    let within : c.loop-position.position < length c.args.figures.now = search (rules, arith) in
    seen_more (λ f. f.now)
    (λ f. ¬ (IsTraced c.args.drawing.now.table c.args.outline.now c.args.colour f))
    c.args.figures.now c.loop-position.position c.index-figures-position.result within
    c.index-figures-position.is c.loop-position.invariant
    (λ t. let other : false ≡ true = sym c.if-branch.false ∙ c.in_ok-looks.ensures.1 t in absurd cc)

pub returns-clause-none : goal.returns-clause-none
returns-clause-none c =
    let all : length c.args.figures.now ≤ c.loop-position.position = search (rules, arith) in
    seen_all (λ f. f.now)
    (λ f. ¬ (IsTraced c.args.drawing.now.table c.args.outline.now c.args.colour f))
    c.args.figures.now c.loop-position.position all c.loop-position.invariant
