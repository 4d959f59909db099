-- The least bounds around two. No public clause cites this module.
use Rattle.std.specs.Prelude.{Option, None, Some}
use Rattle.gf_shape.specs.declared.bounds.Bounds.{Bounds}
use Rattle.gf_plane.specs.Corners.{least, most}

-- the least bounds around a and b
abbrev pub joined : Bounds → Bounds → Bounds
joined a b = record { low = least a.low b.low; high = most a.high b.high }

-- the bounds b, widened to the ones before if there are any
abbrev pub widened : Option Bounds → Bounds → Bounds
widened None b = b
widened (Some a) b = joined a b
