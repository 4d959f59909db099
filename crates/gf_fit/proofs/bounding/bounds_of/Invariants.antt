use Rattle.std.proofs.Common.{take}
use Rattle.gf_fit.specs.FittedWindow.{AreBounds, held}
use Rattle.gf_fit.proofs.bounding.bounds_of.Given as goal

abbrev pub invariant-loop-figure : goal.invariant-loop-figure
invariant-loop-figure g l =
    AreBounds (held g.S.Shape.holds (take l.figure-index l.figures)) l.bounds
