-- Where a polygon of a drawing has its place (this project's choice).
use Rattle.std.specs.Prelude.{ℤ, pos, negsuc, ◌+ℤ◌, ◌-ℤ◌, List, fold}
use Rattle.std.specs.Int.{int_max, int_min}
use Rattle.gf_plane.specs.declared.point.Point.{Point}
use Rattle.gf_objects.specs.Boxes.{greatest_corner, least_corner, point_at}

-- n, raised to low and then lowered to high
abbrev pub drawn : ℤ → ℤ → ℤ → ℤ
drawn low high n = int_min (int_max n low) high

-- a coordinate of the place: that of the first point, n, within 1,000,000 of 0, and then within
-- 1,000,000 of the least and of the greatest coordinate of the points
abbrev pub place_along : ℤ → ℤ → ℤ → ℤ
place_along n least greatest =
    drawn (greatest -ℤ pos 1000000) (least +ℤ pos 1000000) (drawn (negsuc 999999) (pos 1000000) n)

-- the least and the greatest coordinates of points
abbrev pub least_of : List Point → Point
least_of ps = fold least_corner (point_at ps 0) ps

abbrev pub greatest_of : List Point → Point
greatest_of ps = fold greatest_corner (point_at ps 0) ps

-- the place of the polygon that the chain ps becomes
abbrev pub polygon_place : List Point → Point
polygon_place ps =
    record {
      x = place_along (point_at ps 0).x (least_of ps).x (greatest_of ps).x;
      y = place_along (point_at ps 0).y (least_of ps).y (greatest_of ps).y;
    }
