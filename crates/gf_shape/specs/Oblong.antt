-- An oval as its callers see it (Xfig, FIG Format 3.2: ellipse objects with level axes; this
-- project's limits).
use Rattle.std.specs.Prelude.{ℕ, Bool, ◌&&◌, nat_le}
use Rattle.gf_plane.specs.declared.point.Point.{Point}
use Rattle.gf_plane.specs.Reach.{is_within_reach}

-- the points round a centre: one radius reaches to both sides, the other one upwards and downwards
pub record Oblong : Type 0 where
  pub centre : Point
  pub rx : ℕ
  pub ry : ℕ

-- a radius is 1 to 10,000,000
abbrev pub is_radius : ℕ → Bool
is_radius n = nat_le 1 n && nat_le n 10000000

-- the centre of o lies within reach, and both radii are 1 to 10,000,000
abbrev pub is_oblong : Oblong → Bool
is_oblong o = is_within_reach o.centre && is_radius o.rx && is_radius o.ry
