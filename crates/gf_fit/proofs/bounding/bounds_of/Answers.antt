use Rattle.std.proofs.Common.{◌<◌, length, rules}
use Rattle.gf_fit.proofs.BoundsLemmas.{all_taken, bounds_more}
use Rattle.gf_fit.proofs.bounding.bounds_of.Goals as goal

pub loop-figure-preserved : goal.loop-figure-preserved
loop-figure-preserved g c =
    let figures = c.args.figures.now in
    let turn = c.loop-figure in
    let lt : turn.figure-index < length figures = search rules in
    bounds_more g.S.Shape.holds figures turn.figure-index _ turn.bounds c.bounds.result
    c.widened.result lt turn.invariant c.figure-item.result c.figure-item.is c.bounds.ensures
    c.widened.ensures

pub returns : goal.returns
returns g c =
    let turn = c.loop-figure in
    all_taken g.S.Shape.holds c.args.figures.now turn.figure-index turn.bounds (search rules)
    turn.invariant
