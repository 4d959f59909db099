-- What a FIG file draws of each shape (Xfig, FIG Format 3.2: polyline objects of sub types 2 and 3,
-- ellipse objects).
use Rattle.std.specs.Prelude.{true, List}
use Rattle.gf_shape.specs.declared.any_shape.AnyShape.{AnyShape}
use Rattle.gf_shape.specs.declared.any_shape.AnyShape.TheVariants as any
use Rattle.gf_shape.specs.declared.outline.Outline.{Outline}
use Rattle.gf_shape.specs.declared.outline.Outline.TheVariants.{Chain, Disc, Oval}
use Rattle.gf_plane.specs.declared.point.Point.{Point}
use Rattle.gf_shape.specs.Area.{Area, corners_again}
use Rattle.gf_shape.specs.Ring.{ring_of}

-- the box a: its corners, the first one again at the end
abbrev pub rect_outline : Area → Outline
rect_outline a = Chain (record { boxed = true; points = corners_again a })

-- the polygon of the points ps: in their order, the first one again at the end
abbrev pub polygon_outline : List Point → Outline
polygon_outline ps = Chain (ring_of ps)

-- the outline of a shape of any kind: a disc for a circle, an oval for an ellipse
abbrev pub any_outline : AnyShape → Outline
any_outline (any.Rect a) = rect_outline a
any_outline (any.Circle r) = Disc r
any_outline (any.Ellipse o) = Oval o
any_outline (any.Polygon ps) = polygon_outline ps
