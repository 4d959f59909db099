-- A closed chain as its callers see it (Xfig, FIG Format 3.2: polyline objects; this project's
-- limits).
use Rattle.std.specs.Prelude.{◌≡◌, ◌≤◌, ◌-◌, Bool, true, false, IsTrue, List}
use Rattle.std.specs.Prelude.{◌++◌, take, length, All, slice_get}
use Rattle.gf_plane.specs.declared.point.Point.{Point}
use Rattle.gf_plane.specs.Reach.{is_within_reach}

-- the points of a chain, and whether FIG calls it a box
pub record Ring : Type 0 where
  pub boxed : Bool
  pub points : List Point

-- the chain round the points ps
abbrev pub ring_of : List Point → Ring
ring_of ps = record { boxed = false; points = ps ++ take 1 ps }

-- the ring r has 4 to 65,536 points within reach; its last point is its first. A box of FIG has 5
-- points, and need not be a rectangle
pub record IsRing (r : Ring) : Type 0 where
  pub least : 4 ≤ length r.points
  pub most : length r.points ≤ 65536
  pub box : r.boxed ≡ true → length r.points ≡ 5
  pub closed : slice_get r.points (length r.points - 1) ≡ slice_get r.points 0
  pub reach : All (λ p. IsTrue (is_within_reach p)) r.points
