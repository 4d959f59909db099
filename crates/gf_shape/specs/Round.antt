-- A disc as its callers see it (Xfig, FIG Format 3.2: ellipse objects; this project's limits).
use Rattle.std.specs.Prelude.{ℕ, Bool, ◌&&◌, nat_le}
use Rattle.gf_plane.specs.declared.point.Point.{Point}
use Rattle.gf_plane.specs.Reach.{is_within_reach}

-- the points within a radius of a centre
pub record Round : Type 0 where
  pub centre : Point
  pub radius : ℕ

-- the centre of r lies within reach, and its radius is 1 to 10,000,000
abbrev pub is_round : Round → Bool
is_round r = is_within_reach r.centre && nat_le 1 r.radius && nat_le r.radius 10000000
