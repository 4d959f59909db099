-- Points moved by a distance (this project's choice).
use Rattle.std.specs.Prelude.{◌+ℤ◌, ◌-ℤ◌}
use Rattle.gf_plane.specs.declared.point.Point.{Point}

-- the point p moved by d
abbrev pub plus : Point → Point → Point
plus p d = record { x = p.x +ℤ d.x; y = p.y +ℤ d.y }

-- the point p, seen from o
abbrev pub minus : Point → Point → Point
minus p o = record { x = p.x -ℤ o.x; y = p.y -ℤ o.y }
