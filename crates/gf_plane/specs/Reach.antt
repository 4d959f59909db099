-- How far from the axes the defining points of a shape and the points of a FIG file lie (this
-- project's choice).
use Rattle.std.specs.Prelude.{ℤ, pos, negsuc, Bool, ◌&&◌, int_le}
use Rattle.gf_plane.specs.declared.point.Point.{Point}

-- the coordinate n lies between -10,000,000 and 10,000,000
unfoldable pub is_reached : ℤ → Bool
is_reached n = int_le (negsuc 9999999) n && int_le n (pos 10000000)

-- both coordinates of p lie between -10,000,000 and 10,000,000
abbrev pub is_within_reach : Point → Bool
is_within_reach p = is_reached p.x && is_reached p.y
