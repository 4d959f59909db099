-- Worked examples of the shape meaning and the figure meaning, checked by computing: what is
-- answered of points in turn.
use Rattle.std.specs.Prelude.{◌≡◌, refl, true, false, List, [], ◌∷◌, map, ℤ}
use Rattle.std.specs.Prelude.{pos, negsuc}
use Rattle.gf_plane.specs.declared.point.Point.{Point}
use Rattle.gf_shape.specs.Edges.{side, is_between, is_on_line}
use Rattle.gf_shape.specs.ShapeMeaning.{box_holds, circle_holds, ellipse_holds, polygon_holds}
use Rattle.gf_shape.specs.FigureMeaning.{chain_holds, disc_holds, oval_figure_holds}

abbrev pub at : ℤ → ℤ → Point
at x y = record { x = x; y = y }

-- a box holds its far corner, and nothing past it
pub box_points : map (box_holds 10 10) (at (pos 10) (pos 10) ∷ at (pos 11) (pos 0) ∷ [])
    ≡ true ∷ false ∷ []
box_points = refl

-- the unit circle holds five points: one left of the centre, and not the next corner
pub circle_points : map (circle_holds 1)
    (at (negsuc 0) (pos 0) ∷ at (negsuc 0) (negsuc 0) ∷ []) ≡ true ∷ false ∷ []
circle_points = refl

-- an ellipse three wide and two high holds its ends and what lies within its line
pub ellipse_points : map (ellipse_holds 3 2)
    (at (pos 3) (pos 0) ∷ at (pos 0) (pos 2) ∷ at (pos 2) (pos 1) ∷ at (pos 3) (pos 1)
    ∷ at (pos 1) (pos 2) ∷ []) ≡ true ∷ true ∷ true ∷ false ∷ false ∷ []
ellipse_points = refl

-- an oval away from the origin
pub oval_inside : oval_figure_holds (at (pos 100) (negsuc 99)) 3 2 (at (pos 102) (negsuc 98))
    ≡ true
oval_inside = refl

-- a star with five arms: even-odd, so its middle is outside, and a point of an arm inside
abbrev pub star : List Point
star = at (pos 0) (negsuc 9) ∷ at (pos 6) (pos 8) ∷ at (negsuc 8) (negsuc 2)
    ∷ at (pos 9) (negsuc 2) ∷ at (negsuc 5) (pos 8) ∷ []

pub star_points : map (polygon_holds star) (at (pos 0) (pos 0) ∷ at (pos 0) (negsuc 7) ∷ [])
    ≡ false ∷ true ∷ []
unfolding side is_between is_on_line
star_points = refl

-- a house: its roof's top and its floor belong to it; level with its corners the ray counts each
-- once
abbrev pub house : List Point
house = at (pos 0) (pos 0) ∷ at (pos 4) (pos 0) ∷ at (pos 4) (pos 4) ∷ at (pos 2) (pos 6)
    ∷ at (pos 0) (pos 4) ∷ []

pub house_points : map (polygon_holds house)
    (at (pos 2) (pos 6) ∷ at (pos 2) (pos 0) ∷ at (pos 1) (pos 4) ∷ at (negsuc 0) (pos 4)
    ∷ at (pos 1) (pos 6) ∷ []) ≡ true ∷ true ∷ true ∷ false ∷ false ∷ []
unfolding side is_between is_on_line
house_points = refl

-- the same house as a FIG file draws it, with the first point again
abbrev pub house_chain : List Point
house_chain = at (pos 0) (pos 0) ∷ at (pos 4) (pos 0) ∷ at (pos 4) (pos 4)
    ∷ at (pos 2) (pos 6) ∷ at (pos 0) (pos 4) ∷ at (pos 0) (pos 0) ∷ []

pub chain_points : map (chain_holds house_chain)
    (at (pos 2) (pos 6) ∷ at (pos 1) (pos 4) ∷ at (negsuc 0) (pos 4) ∷ [])
    ≡ true ∷ true ∷ false ∷ []
unfolding side is_between is_on_line
chain_points = refl

-- a disc away from the origin
pub disc_points : map (disc_holds (at (pos 100) (negsuc 99)) 5)
    (at (pos 103) (negsuc 95) ∷ at (pos 104) (negsuc 95) ∷ []) ≡ true ∷ false ∷ []
disc_points = refl
