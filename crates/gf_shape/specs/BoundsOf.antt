-- The least bounds of a row of points. No public clause cites this module.
use Rattle.std.specs.Prelude.{List, fold}
use Rattle.gf_shape.specs.declared.bounds.Bounds.{Bounds}
use Rattle.gf_plane.specs.declared.point.Point.{Point}
use Rattle.gf_plane.specs.Corners.{least, most}

-- the bounds b, widened to the point p
abbrev pub with : Bounds → Point → Bounds
with b p = record { low = least b.low p; high = most b.high p }

-- the bounds of the point a alone
abbrev pub bounds_at : Point → Bounds
bounds_at a = record { low = a; high = a }

-- the least bounds of the point a and the points ps
abbrev pub bounds_from : Point → List Point → Bounds
bounds_from a ps = fold with (bounds_at a) ps
