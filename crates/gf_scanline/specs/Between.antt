-- Which edges of a path come between two heights (this project's choice).
use Rattle.std.specs.Prelude.{ℤ, int_le, Bool, ◌&&◌, ◌||◌, cond, IsTrue, List, []}
use Rattle.std.specs.Prelude.{◌∷◌, ◌++◌}
use Rattle.gf_plane.specs.declared.point.Point.{Point}
use Rattle.gf_plane.specs.Reach.{is_within_reach}
use Rattle.gf_scanline.specs.declared.edge.Edge.{Edge}

-- both points of the edge lie within reach
abbrev pub IsWithinReach : Edge → Type 0
IsWithinReach e = IsTrue (is_within_reach e.from) × IsTrue (is_within_reach e.to)

-- a point of the edge has the height low or a greater one
abbrev pub comes_from : ℤ → Edge → Bool
comes_from low e = int_le low e.from.y || int_le low e.to.y

-- a point of the edge has the height high or a lesser one
abbrev pub comes_upto : ℤ → Edge → Bool
comes_upto high e = int_le e.from.y high || int_le e.to.y high

-- the edge comes between the heights low and high
abbrev pub comes_between : ℤ → ℤ → Edge → Bool
comes_between low high e = comes_from low e && comes_upto high e

-- the edge alone, where it comes between the heights low and high, and else none
abbrev pub between_of : ℤ → ℤ → Edge → List Edge
between_of low high e = cond (comes_between low high e) (e ∷ []) []

-- the edges from a along ps that come between the heights low and high
abbrev pub between_along : ℤ → ℤ → Point → List Point → List Edge
between_along low high a [] = []
between_along low high a (b ∷ ps) =
    between_of low high (record { from = a; to = b }) ++ between_along low high b ps
