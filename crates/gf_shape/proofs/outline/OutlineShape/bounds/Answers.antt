use Rattle.gf_shape.proofs.outline.OutlineShape.bounds.Goals as goal

pub returns-in-Chain : goal.returns-in-Chain
returns-in-Chain c = rw c.in-Chain.is c.bounds.ensures

pub returns-in-Disc : goal.returns-in-Disc
returns-in-Disc c = rw c.in-Disc.is c.bounds-in-Disc.ensures

pub returns-in-Oval : goal.returns-in-Oval
returns-in-Oval c = rw c.in-Oval.is c.bounds-in-Oval.ensures
