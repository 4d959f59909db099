-- Which points a figure of a FIG file paints (Xfig, FIG Format 3.2), profile: filled even-odd,
-- edges inside, no outline.
use Rattle.std.specs.Prelude.{ℕ, ◌*◌, ◌%◌, Bool, ◌||◌, List, zip, drop, count_by, pos}
use Rattle.std.specs.Prelude.{◌+ℤ◌, ◌-ℤ◌, ◌*ℤ◌, int_le, nat_eq}
use Rattle.std.specs.List.{list_any}
use Rattle.gf_plane.specs.declared.point.Point.{Point}
use Rattle.gf_shape.specs.declared.outline.Outline.{Outline}
use Rattle.gf_shape.specs.declared.outline.Outline.TheVariants.{Chain, Disc, Oval}
use Rattle.gf_shape.specs.Edges.{Edge, is_on_edge, crosses_left}

-- the edges from each point to the next
abbrev pub open_edges : List Point → List Edge
open_edges ps = zip ps (drop 1 ps)

-- a closed chain holds its edges, and each point whose ray to the left crosses an odd number of
-- them
abbrev pub chain_holds : List Point → Point → Bool
chain_holds ps p = list_any (is_on_edge p) (open_edges ps)
    || nat_eq (count_by (crosses_left p) (open_edges ps) % 2) 1

-- a disc of this centre and radius holds p
abbrev pub disc_holds : Point → ℕ → Point → Bool
disc_holds centre r p =
    int_le ((p.x -ℤ centre.x) *ℤ (p.x -ℤ centre.x) +ℤ (p.y -ℤ centre.y) *ℤ
    (p.y -ℤ centre.y)) (pos (r * r))

-- an oval of this centre and these radii holds p
abbrev pub oval_figure_holds : Point → ℕ → ℕ → Point → Bool
oval_figure_holds centre rx ry p =
    int_le
    ((p.x -ℤ centre.x) *ℤ (p.x -ℤ centre.x) *ℤ pos (ry * ry)
    +ℤ (p.y -ℤ centre.y) *ℤ (p.y -ℤ centre.y) *ℤ pos (rx * rx))
    (pos (rx * rx * (ry * ry)))

-- which points an outline holds
abbrev pub outline_holds : Outline → Point → Bool
outline_holds (Chain ring) = chain_holds ring.points
outline_holds (Disc disc) = disc_holds disc.centre disc.radius
outline_holds (Oval oval) = oval_figure_holds oval.centre oval.rx oval.ry
