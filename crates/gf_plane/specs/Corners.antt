-- The corners of the least bounds around two points (this project's choice).
use Rattle.std.specs.Int.{int_min, int_max}
use Rattle.gf_plane.specs.declared.point.Point.{Point}

-- the lesser of both coordinates of two points
abbrev pub least : Point → Point → Point
least p q = record { x = int_min p.x q.x; y = int_min p.y q.y }

-- the greater of both coordinates of two points
abbrev pub most : Point → Point → Point
most p q = record { x = int_max p.x q.x; y = int_max p.y q.y }
