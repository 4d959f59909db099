-- Which points a shape holds, seen from its place (edges inside, polygons even-odd; this project's
-- choice).
use Rattle.std.specs.Prelude.{ℕ, ◌*◌, ◌%◌, Bool, ◌&&◌, ◌||◌, List, ◌++◌, zip}
use Rattle.std.specs.Prelude.{drop, take, count_by, pos, ◌+ℤ◌, ◌*ℤ◌, int_le, nat_eq}
use Rattle.std.specs.List.{list_any}
use Rattle.gf_plane.specs.declared.point.Point.{Point}
use Rattle.gf_shape.specs.declared.any_shape.AnyShape.{AnyShape}
use Rattle.gf_shape.specs.declared.any_shape.AnyShape.TheVariants as any
use Rattle.gf_shape.specs.Area.{Area}
use Rattle.gf_shape.specs.Edges.{Edge, is_on_edge, crosses_right}
use Rattle.gf_plane.specs.Moving.{minus}
use Rattle.gf_shape.specs.Round.{Round}
use Rattle.gf_shape.specs.Oblong.{Oblong}

-- a box of this width and height holds d, seen from its least corner
abbrev pub box_holds : ℕ → ℕ → Point → Bool
box_holds width height d = int_le (pos 0) d.x && int_le d.x (pos width) && int_le (pos 0) d.y
    && int_le d.y (pos height)

-- a circle of radius r holds d, seen from its centre
abbrev pub circle_holds : ℕ → Point → Bool
circle_holds r d = int_le (d.x *ℤ d.x +ℤ d.y *ℤ d.y) (pos (r * r))

-- an ellipse of the radii rx and ry holds d, seen from its centre
abbrev pub ellipse_holds : ℕ → ℕ → Point → Bool
ellipse_holds rx ry d =
    int_le
    (d.x *ℤ d.x *ℤ pos (ry * ry) +ℤ d.y *ℤ d.y *ℤ pos (rx * rx))
    (pos (rx * rx * (ry * ry)))

-- the edges from each point to the next, and from the last to the first
abbrev pub closed_edges : List Point → List Edge
closed_edges ps = zip ps (drop 1 ps ++ take 1 ps)

-- a polygon holds its edges, and each point whose ray to the right crosses an odd number of them
abbrev pub polygon_holds : List Point → Point → Bool
polygon_holds ps d = list_any (is_on_edge d) (closed_edges ps)
    || nat_eq (count_by (crosses_right d) (closed_edges ps) % 2) 1

-- the box a holds p
abbrev pub rect_holds : Area → Point → Bool
rect_holds a p = box_holds a.width a.height (minus p a.low)

-- the circle r holds p
abbrev pub round_holds : Round → Point → Bool
round_holds r p = circle_holds r.radius (minus p r.centre)

-- the ellipse o holds p
abbrev pub oval_holds : Oblong → Point → Bool
oval_holds o p = ellipse_holds o.rx o.ry (minus p o.centre)

-- which points a shape of any kind holds; a polygon by its points as they are
abbrev pub any_holds : AnyShape → Point → Bool
any_holds (any.Rect a) = rect_holds a
any_holds (any.Circle r) = round_holds r
any_holds (any.Ellipse o) = oval_holds o
any_holds (any.Polygon ps) = polygon_holds ps
