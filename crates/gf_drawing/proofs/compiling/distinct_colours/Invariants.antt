use Rattle.std.proofs.Common.{◌≡◌, take}
use Rattle.gf_drawing.specs.CanonicalDrawing.{colours_of}
use Rattle.gf_drawing.proofs.compiling.distinct_colours.Given as goal

abbrev pub invariant-loop-item : goal.invariant-loop-item
invariant-loop-item g l = l.colours.keys ≡ colours_of (take l.item-index l.items)
