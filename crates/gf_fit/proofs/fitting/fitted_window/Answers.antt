use Rattle.std.specs.Prelude.{None, Some}
use Rattle.std.proofs.Common.{refl}
use Rattle.gf_scanline.specs.Windows.{is_corner}
use Rattle.gf_fit.specs.FittedWindow.{held}
use Rattle.gf_fit.proofs.FittingLemmas.{fitted_covers, fitted_least, fitted_shows}
use Rattle.gf_fit.proofs.fitting.fitted_window.Goals as goal

pub window_at-requires-clause-x : goal.window_at-requires-clause-x
unfolding is_corner
window_at-requires-clause-x g c = refl

pub window_at-requires-clause-y : goal.window_at-requires-clause-y
unfolding is_corner
window_at-requires-clause-y g c = refl

pub returns-in-Some-clause-fitted : goal.returns-in-Some-clause-fitted
returns-in-Some-clause-fitted g c = record {
  bounds = Some c.in-Some.bounds;
  least = rw c.figures.ensures.figures at c.in-Some.ensures;
  window = c.window_over.ensures;
}

pub returns-in-Some-clause-shows : goal.returns-in-Some-clause-shows
returns-in-Some-clause-shows g c =
    fitted_shows (held g.S.Shape.holds c.args.drawing.now.figures) c.args.frame
    c.window_over.result (returns-in-Some-clause-fitted g c)

pub returns-in-Some-clause-covers : goal.returns-in-Some-clause-covers
returns-in-Some-clause-covers g c =
    fitted_covers (held g.S.Shape.holds c.args.drawing.now.figures) c.args.frame
    c.window_over.result (returns-in-Some-clause-fitted g c)

pub returns-in-Some-clause-least : goal.returns-in-Some-clause-least
returns-in-Some-clause-least g c =
    fitted_least (held g.S.Shape.holds c.args.drawing.now.figures) c.args.frame
    c.window_over.result (returns-in-Some-clause-fitted g c)

pub returns-in-None-clause-fitted : goal.returns-in-None-clause-fitted
returns-in-None-clause-fitted g c = record {
  bounds = None;
  least = rw c.figures.ensures.figures at c.in-None.ensures;
  window = c.window_at.ensures;
}

pub returns-in-None-clause-shows : goal.returns-in-None-clause-shows
returns-in-None-clause-shows g c =
    fitted_shows (held g.S.Shape.holds c.args.drawing.now.figures) c.args.frame
    c.window_at.result (returns-in-None-clause-fitted g c)

pub returns-in-None-clause-covers : goal.returns-in-None-clause-covers
returns-in-None-clause-covers g c =
    fitted_covers (held g.S.Shape.holds c.args.drawing.now.figures) c.args.frame
    c.window_at.result (returns-in-None-clause-fitted g c)
