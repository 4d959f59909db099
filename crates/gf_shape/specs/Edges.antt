-- Edges between grid points, and where a level line meets them (half-open even-odd rule; this
-- project's choice).
use Rattle.std.specs.Prelude.{ℤ, pos, ◌-ℤ◌, ◌*ℤ◌, Bool, not, ◌&&◌, ◌||◌}
use Rattle.std.specs.Prelude.{int_le, int_lt}
use Rattle.std.specs.Ordering.{int_eq}
use Rattle.gf_plane.specs.declared.point.Point.{Point}

-- an edge, from one point to another
abbrev pub Edge : Type 0
Edge = Point × Point

-- 0 where d is on the line from a to b; positive where a climbing line passes right of d
unfoldable pub side : Edge → Point → ℤ
side (a, b) d = (b.x -ℤ a.x) *ℤ (d.y -ℤ a.y) -ℤ (b.y -ℤ a.y) *ℤ (d.x -ℤ a.x)

-- m lies between a and b, or is one of them
unfoldable pub is_between : ℤ → ℤ → ℤ → Bool
is_between a m b = (int_le a m && int_le m b) || (int_le b m && int_le m a)

-- d lies on the line through the edge
unfoldable pub is_on_line : Point → Edge → Bool
is_on_line d e = int_eq (side e d) (pos 0)

-- d lies on the edge
abbrev pub is_on_edge : Point → Edge → Bool
is_on_edge d (a, b) = is_on_line d (a, b) && is_between a.x d.x b.x && is_between a.y d.y b.y

-- the edge begins at or before the height of d, and ends past it
abbrev pub climbs_past : Point → Edge → Bool
climbs_past d (a, b) = int_le a.y d.y && not (int_le b.y d.y)

-- the edge begins past the height of d, and ends at or before it
abbrev pub falls_past : Point → Edge → Bool
falls_past d (a, b) = climbs_past d (b, a)

-- the edge crosses the ray from d to the right
abbrev pub crosses_right : Point → Edge → Bool
crosses_right d e = (climbs_past d e && int_lt (pos 0) (side e d))
    || (falls_past d e && int_lt (side e d) (pos 0))

-- the edge crosses the ray from d to the left
abbrev pub crosses_left : Point → Edge → Bool
crosses_left d e = (climbs_past d e && int_lt (side e d) (pos 0))
    || (falls_past d e && int_lt (pos 0) (side e d))
