use Rattle.gf_figures.proofs.DrawingLaw.{front_figure_colours}
use Rattle.gf_figures.proofs.drawing.Drawing.colour_at.Goals as goal

pub returns-in-Some : goal.returns-in-Some
returns-in-Some g c = rw (
  c.figure_colour.ensures,
  ← c.self.view_is,
  front_figure_colours g.S.Shape.holds _ _ c.args.p c.self.invariant.figures,
  ← c.deref.ensures.value,
  ← c.front_at.ensures,
  c.in-Some.is,
)

pub returns-in-None : goal.returns-in-None
returns-in-None g c = rw (
  ← c.self.view_is,
  front_figure_colours g.S.Shape.holds _ _ c.args.p c.self.invariant.figures,
  ← c.deref.ensures.value,
  ← c.front_at.ensures,
  c.in-None.is,
)
