-- Worked examples of the colour of a drawing, checked by computing.
use Rattle.std.specs.Prelude.{◌≡◌, refl, ℕ, pos, [], ◌∷◌}
use Rattle.gf_plane.specs.declared.point.Point.{Point}
use Rattle.gf_shape.specs.Area.{Area}
use Rattle.gf_shape.specs.ShapeMeaning.{rect_holds}
use Rattle.gf_figures.specs.declared.figure.Figure.{Figure}
use Rattle.gf_figures.specs.Colours.{rgb}
use Rattle.gf_figures.specs.DrawingColour.{drawing_colour, from_back}

-- the point of which both coordinates are n
abbrev pub at : ℕ → Point
at n = record { x = pos n; y = pos n }

-- a box from (0, 0) of this size
abbrev pub box : ℕ → ℕ → ℕ → Figure Area
box size colour depth = record {
  shape = record { low = at 0; width = size; height = size };
  colour = colour;
  depth = depth;
}

-- within a depth the later figure of the file is on top
pub one_depth : drawing_colour rect_holds [] (box 5 1 50 ∷ box 3 2 50 ∷ []) (at 0)
    ≡ rgb 0 255 0
unfolding from_back
one_depth = refl

-- the smaller depth is on top
pub two_depths : drawing_colour rect_holds [] (box 5 1 5 ∷ box 3 2 6 ∷ []) (at 0)
    ≡ rgb 0 0 255
unfolding from_back
two_depths = refl

-- the ground is white
pub uncovered : drawing_colour rect_holds [] (box 5 1 5 ∷ box 3 2 6 ∷ []) (at 6)
    ≡ rgb 255 255 255
unfolding from_back
uncovered = refl

-- a number from the table has the table's colour
pub by_the_table : drawing_colour rect_holds ((32, rgb 1 2 3) ∷ [])
    (box 5 32 6 ∷ box 3 2 5 ∷ []) (at 4) ≡ rgb 1 2 3
unfolding from_back
by_the_table = refl
