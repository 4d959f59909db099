-- The shape of a form: what it holds, and that it is lawful and can be moved where its form and its
-- place keep their limits.
use Rattle.std.specs.Prelude.{◌≡◌, ℕ, ℤ, pos, negsuc, ◌+ℤ◌, ◌-ℤ◌, int_le, IsTrue, List, length, []}
use Rattle.std.specs.Prelude.{◌∷◌, refl}
use Rattle.std.specs.List.{list_all}
use Rattle.std.proofs.Common.{ap, arith, sym, ◌∙◌}
use Rattle.std.proofs.lemmas.Bool.{and_parts, and_from}
use Rattle.std.proofs.lemmas.Bool.Decides.{nat_tests}
use Rattle.std.proofs.lemmas.Int.{ints}
use Rattle.gf_plane.specs.declared.point.Point.{Point}
use Rattle.gf_shape.specs.Area.{is_area, is_side}
use Rattle.gf_plane.specs.Moving.{minus, plus}
use Rattle.gf_plane.specs.PointCounts.{is_polygon_count}
use Rattle.gf_plane.specs.Reach.{is_reached, is_within_reach}
use Rattle.gf_shape.specs.Round.{is_round}
use Rattle.gf_shape.specs.Oblong.{is_oblong}
use Rattle.gf_shape.specs.ShapeMeaning.{any_holds, box_holds, circle_holds, ellipse_holds}
use Rattle.gf_shape.specs.ShapeMoves.{any_movable}
use Rattle.gf_shape.specs.Laws.Moved.{plus-minus}
use Rattle.gf_shape.specs.Laws.Shapes.{any_moves}
use Rattle.gf_ops.specs.Limits.{is_form, is_near, is_polygon, is_size}
use Rattle.gf_ops.specs.declared.change.Form.{Form}
use Rattle.gf_ops.specs.declared.change.Form.TheVariants.{Rect, Circle, Ellipse, Polygon}
use Rattle.gf_versions.specs.Ranking.{form_at, origin, shape_of}
use Rattle.gf_versions.specs.Visible.{form_holds}

less_none : (n : ℤ) → n -ℤ pos 0 ≡ n
less_none n = omega (arith, ints)

minus-origin : (p : Point) → minus p origin ≡ p
minus-origin p = rw (less_none p.x, less_none p.y) refl

-- the shape of a form holds what the form holds
shape_of_holds : (form : Form) (d : Point) → any_holds (shape_of form) d ≡ form_holds form d
shape_of_holds (Rect width height) d = ap (box_holds width height) (minus-origin d)
shape_of_holds (Circle radius) d = ap (circle_holds radius) (minus-origin d)
shape_of_holds (Ellipse rx ry) d = ap (ellipse_holds rx ry) (minus-origin d)
shape_of_holds (Polygon ps) d = refl

-- a form at its place holds p exactly if the form holds p seen from there, by the move law
pub shape_holds : (form : Form) (place p : Point) → any_holds (form_at form place) p ≡ form_holds
    form (minus p place)
shape_holds form place p =
    ap (any_holds (form_at form place)) (sym (plus-minus p place))
    ∙ (any_moves (shape_of form) place (minus p place) ∙ shape_of_holds form (minus p place))

pub is_area-sizes : (width height : ℕ) → IsTrue (is_size width) → IsTrue (is_size height)
    → IsTrue (is_area (record { low = origin; width = width; height = height }))
unfolding is_side
is_area-sizes width height wide high = grind (arith, ints, nat_tests)

pub is_round-size : (radius : ℕ) → IsTrue (is_size radius)
    → IsTrue (is_round (record { centre = origin; radius = radius }))
unfolding is_reached
is_round-size radius fits = grind (arith, ints, nat_tests)

pub is_oblong-sizes : (rx ry : ℕ) → IsTrue (is_size rx) → IsTrue (is_size ry)
    → IsTrue (is_oblong (record { centre = origin; rx = rx; ry = ry }))
unfolding is_reached
is_oblong-sizes rx ry wide high = grind (arith, ints, nat_tests)

-- a near point lies within reach
is_within_reach-near : (p : Point) → IsTrue (is_near p) → IsTrue (is_within_reach p)
unfolding is_near is_reached
is_within_reach-near p near = grind (arith, ints)

all_within_reach-near : (ps : List Point) → IsTrue (list_all is_near ps)
    → IsTrue (list_all is_within_reach ps)
all_within_reach-near [] near = refl
all_within_reach-near (p ∷ ps) near =
    let parts = and_parts (is_near p) (list_all is_near ps) near in
    and_from _ _ (is_within_reach-near p parts.0) (all_within_reach-near ps parts.1)

-- the points of a polygon within its limits make a polygon
pub is_polygon-lawful : (ps : List Point) → IsTrue (is_polygon ps)
    → IsTrue (is_polygon_count (length ps)) × IsTrue (list_all is_within_reach ps)
is_polygon-lawful ps fits = let parts = and_parts (is_polygon_count (length ps))
    (list_all is_near ps) fits in (parts.0, all_within_reach-near ps parts.1)

-- near points moved by a near one lie within reach
is_reached-sum : (n d : ℤ) → IsTrue (int_le (negsuc 999999) n) → IsTrue (int_le n (pos 1000000))
    → IsTrue (int_le (negsuc 999999) d) → IsTrue (int_le d (pos 1000000))
    → IsTrue (is_reached (n +ℤ d))
unfolding is_reached
is_reached-sum n d low high first last = grind (arith, ints)

is_within_reach-moved : (p d : Point) → IsTrue (is_near p) → IsTrue (is_near d)
    → IsTrue (is_within_reach (plus p d))
unfolding is_near
is_within_reach-moved p d near by =
    let bottom = and_parts _ _ near in
    let top = and_parts _ _ bottom.0 in
    let sides = and_parts _ _ top.0 in
    let under = and_parts _ _ by in
    let over = and_parts _ _ under.0 in
    let beside = and_parts _ _ over.0 in
    and_from _ _ (is_reached-sum p.x d.x sides.0 sides.1 beside.0 beside.1)
    (is_reached-sum p.y d.y top.1 bottom.1 over.1 under.1)

all_movable-near : (ps : List Point) (d : Point) → IsTrue (list_all is_near ps) → IsTrue (is_near d)
    → IsTrue (list_all (λ p. is_within_reach (plus p d)) ps)
all_movable-near [] d near by = refl
all_movable-near (p ∷ ps) d near by =
    let parts = and_parts (is_near p) (list_all is_near ps) near in
    and_from _ _ (is_within_reach-moved p d parts.0 by) (all_movable-near ps d parts.1 by)

rect_movable-near : (width height : ℕ) (d : Point) → IsTrue (is_size width)
    → IsTrue (is_size height) → IsTrue (is_near d)
    → IsTrue (any_movable (shape_of (Rect width height)) d)
unfolding is_near is_reached
rect_movable-near width height d wide high near = grind (arith, ints, nat_tests)

origin_movable-near : (d : Point) → IsTrue (is_near d) → IsTrue (is_within_reach (plus origin d))
unfolding is_near is_reached
origin_movable-near d near = grind (arith, ints)

-- a form within its limits can be moved to each place within its own
pub shape_movable : (form : Form) (d : Point) → IsTrue (is_form form) → IsTrue (is_near d)
    → IsTrue (any_movable (shape_of form) d)
shape_movable (Rect width height) d fits near = let sizes = and_parts _ _ fits in
    rect_movable-near width height d sizes.0 sizes.1 near
shape_movable (Circle radius) d fits near = origin_movable-near d near
shape_movable (Ellipse rx ry) d fits near = origin_movable-near d near
shape_movable (Polygon ps) d fits near = all_movable-near ps d
    (and_parts _ (list_all is_near ps) fits).1 near
