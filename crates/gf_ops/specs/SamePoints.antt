-- When two points, and two lists of points, are the same (this project's choice).
use Rattle.std.specs.Prelude.{Bool, List}
use Rattle.std.specs.Cmp.Lexicographic.{pointwise}
use Rattle.std.specs.Ordering.{on, int_eq, eq_of_both}
use Rattle.gf_plane.specs.declared.point.Point.{Point}

-- p and q are one point
abbrev pub point_eq : Point → Point → Bool
point_eq = eq_of_both (on (λ p. p.x) int_eq) (on (λ p. p.y) int_eq)

-- ps and qs have the same points in the same order
abbrev pub points_eq : List Point → List Point → Bool
points_eq = pointwise point_eq
