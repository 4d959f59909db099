-- Which chains are boxes (Xfig, FIG Format 3.2: polyline objects of the sub type 2; the corners may
-- come in any order round the box, this project's choice).
use Rattle.std.specs.Prelude.{ℕ, ℤ, ◌-ℤ◌, unsigned_abs, Bool, not, ◌&&◌, ◌||◌, List}
use Rattle.std.specs.Prelude.{slice_get, unwrap_or}
use Rattle.std.specs.Int.{int_max, int_min}
use Rattle.std.specs.Ordering.{int_eq}
use Rattle.gf_plane.specs.declared.point.Point.{Point}
use Rattle.gf_shape.specs.Ring.{Ring}
use Rattle.gf_ops.specs.declared.change.Form.{Form}
use Rattle.gf_ops.specs.declared.change.Form.TheVariants.{Rect}
use Rattle.gf_ops.specs.SamePoints.{point_eq}
use Rattle.gf_versions.specs.Ranking.{origin}

-- the point at index i
abbrev pub point_at : List Point → ℕ → Point
point_at ps i = unwrap_or (slice_get ps i) origin

-- p has these coordinates
unfoldable pub is_at : Point → ℤ → ℤ → Bool
is_at p x y = point_eq p (record { x = x; y = y })

-- a and c differ in both coordinates
unfoldable pub are_opposite : Point → Point → Bool
are_opposite a c = not (int_eq a.x c.x) && not (int_eq a.y c.y)

-- b has the height of a and the x of c, and d the other way round
abbrev pub are_between : Point → Point → Point → Point → Bool
are_between a b c d = is_at b c.x a.y && is_at d a.x c.y

-- a, b, c and d are the corners of an upright rectangle of positive size, in an order round it
abbrev pub are_corners : Point → Point → Point → Point → Bool
are_corners a b c d = are_opposite a c && (are_between a b c d || are_between a d c b)

-- FIG calls the chain a box, and its points are the corners of an upright rectangle of positive
-- size
abbrev pub is_box : Ring → Bool
is_box r = r.boxed && are_corners (point_at r.points 0) (point_at r.points 1)
    (point_at r.points 2) (point_at r.points 3)

-- the lesser of both coordinates of two points
abbrev pub least_corner : Point → Point → Point
least_corner a c = record { x = int_min a.x c.x; y = int_min a.y c.y }

-- the greater of both coordinates of two points
abbrev pub greatest_corner : Point → Point → Point
greatest_corner a c = record { x = int_max a.x c.x; y = int_max a.y c.y }

-- the box with the opposite corners a and c
abbrev pub box_form : Point → Point → Form
box_form a c = Rect (unsigned_abs (c.x -ℤ a.x)) (unsigned_abs (c.y -ℤ a.y))
