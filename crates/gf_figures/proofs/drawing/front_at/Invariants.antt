use Rattle.std.proofs.Common.{◌≡◌, take}
use Rattle.std.specs.Prelude.{option_copied}
use Rattle.gf_figures.specs.FrontMost.{front_at}
use Rattle.gf_figures.proofs.drawing.front_at.Given as goal

abbrev pub invariant-loop-figure : goal.invariant-loop-figure
invariant-loop-figure g l = option_copied l.front ≡ front_at g.S.Shape.holds l.p
    (take l.figure-index l.figures)
