-- A polygon kept as the chain round its points.
use Rattle.std.specs.Prelude.{◌≡◌, ◌-◌, IsTrue, List, length, take}
use Rattle.gf_plane.specs.declared.point.Point.{Point}
use Rattle.gf_shape.specs.Polygons.{is_polygon}
use Rattle.gf_shape.specs.Ring.{Ring, ring_of}

-- the points of a chain without the last one
abbrev pub opened : List Point → List Point
opened points = take (length points - 1) points

-- the chain r goes round the points of a polygon
pub record IsClosed (r : Ring) : Type 0 where
  pub polygon : IsTrue (is_polygon (opened r.points))
  pub closed : r ≡ ring_of (opened r.points)
