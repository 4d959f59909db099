use Rattle.gf_figures.proofs.OutlinedLemmas.{drawing_colour-outlined}
use Rattle.gf_figures.proofs.laws.outlines_paint_as_their_shapes.Goals as goal

pub returns : goal.returns
returns g c = drawing_colour-outlined g.S.Shape.holds g.S.Shape.outline g.met.S.Shape.outlines
