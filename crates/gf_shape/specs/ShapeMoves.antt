-- How shapes move: each defining point by the same distance (this project's choice).
use Rattle.std.specs.Prelude.{Bool, ◌&&◌, List, map}
use Rattle.std.specs.List.{list_all}
use Rattle.gf_shape.specs.declared.any_shape.AnyShape.{AnyShape}
use Rattle.gf_shape.specs.declared.any_shape.AnyShape.TheVariants as any
use Rattle.gf_shape.specs.declared.outline.Outline.{Outline}
use Rattle.gf_shape.specs.declared.outline.Outline.TheVariants.{Chain, Disc, Oval}
use Rattle.gf_plane.specs.declared.point.Point.{Point}
use Rattle.gf_shape.specs.Area.{Area, far_corner}
use Rattle.gf_plane.specs.Moving.{plus}
use Rattle.gf_plane.specs.Reach.{is_within_reach}
use Rattle.gf_shape.specs.Ring.{Ring}
use Rattle.gf_shape.specs.Round.{Round}
use Rattle.gf_shape.specs.Oblong.{Oblong}

-- the points ps, each moved by d
abbrev pub points_moved : List Point → Point → List Point
points_moved ps d = map (λ p. plus p d) ps

-- each of the points ps, moved by d, lies within reach
abbrev pub points_movable : List Point → Point → Bool
points_movable ps d = list_all (λ p. is_within_reach (plus p d)) ps

-- the box a, moved by d
abbrev pub rect_moved : Area → Point → Area
rect_moved a d = record a { low = plus a.low d }

-- the least corner of the box a and the one opposite, moved by d, lie within reach
abbrev pub rect_movable : Area → Point → Bool
rect_movable a d = is_within_reach (plus a.low d) && is_within_reach (plus (far_corner a) d)

-- the circle or disc r, moved by d
abbrev pub round_moved : Round → Point → Round
round_moved r d = record r { centre = plus r.centre d }

-- the centre of the circle or disc r, moved by d, lies within reach
abbrev pub round_movable : Round → Point → Bool
round_movable r d = is_within_reach (plus r.centre d)

-- the ellipse or oval o, moved by d
abbrev pub oval_moved : Oblong → Point → Oblong
oval_moved o d = record o { centre = plus o.centre d }

-- the centre of the ellipse or oval o, moved by d, lies within reach
abbrev pub oval_movable : Oblong → Point → Bool
oval_movable o d = is_within_reach (plus o.centre d)

-- the chain r, moved by d
abbrev pub ring_moved : Ring → Point → Ring
ring_moved r d = record r { points = points_moved r.points d }

-- a shape of any kind, moved by d
abbrev pub any_moved : AnyShape → Point → AnyShape
any_moved (any.Rect a) d = any.Rect (rect_moved a d)
any_moved (any.Circle r) d = any.Circle (round_moved r d)
any_moved (any.Ellipse o) d = any.Ellipse (oval_moved o d)
any_moved (any.Polygon ps) d = any.Polygon (points_moved ps d)

-- the defining points of a shape of any kind, moved by d, lie within reach
abbrev pub any_movable : AnyShape → Point → Bool
any_movable (any.Rect a) d = rect_movable a d
any_movable (any.Circle r) d = round_movable r d
any_movable (any.Ellipse o) d = oval_movable o d
any_movable (any.Polygon ps) d = points_movable ps d

-- an outline, moved by d
abbrev pub outline_moved : Outline → Point → Outline
outline_moved (Chain ring) d = Chain (ring_moved ring d)
outline_moved (Disc round) d = Disc (round_moved round d)
outline_moved (Oval oblong) d = Oval (oval_moved oblong d)

-- the defining points of an outline, moved by d, lie within reach
abbrev pub outline_movable : Outline → Point → Bool
outline_movable (Chain ring) d = points_movable ring.points d
outline_movable (Disc round) d = round_movable round d
outline_movable (Oval oblong) d = oval_movable oblong d
