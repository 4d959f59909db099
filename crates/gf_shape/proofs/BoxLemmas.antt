-- What a box holds: its bounds; its moves and its outline are lawful.
use Rattle.std.specs.Prelude.{ℕ, ℤ, pos, ◌+ℤ◌, ◌-ℤ◌, ◌≤ℤ◌, IsTrue, true, int_le, refl}
use Rattle.std.proofs.Common.{arith}
use Rattle.std.proofs.lemmas.Bool.{and_parts, and_from}
use Rattle.std.proofs.lemmas.List.Elements.{All-from_recursion}
use Rattle.std.proofs.lemmas.Int.{ints}
use Rattle.gf_plane.specs.declared.point.Point.{Point}
use Rattle.gf_shape.specs.Area.{Area, is_area, is_side, far_corner, corners_again}
use Rattle.gf_plane.specs.Reach.{is_reached, is_within_reach}
use Rattle.gf_shape.specs.Ring.{IsRing}
use Rattle.gf_shape.specs.ShapeMeaning.{rect_holds}
use Rattle.gf_shape.specs.Laws.Moved.{gap_past}
use Rattle.gf_shape.specs.ShapeMoves.{rect_movable, rect_moved}
use Rattle.gf_shape.specs.ShapeLaws.{IsBounds, IsInBounds}

-- a side whose moved ends lie within reach is a side
is_side-moved : (low d : ℤ) (size : ℕ) → IsTrue (is_side low size) → IsTrue (is_reached (low +ℤ d))
    → IsTrue (is_reached ((low +ℤ pos size) +ℤ d)) → IsTrue (is_side (low +ℤ d) size)
unfolding is_side is_reached
is_side-moved low d size side first last = grind (arith, ints)

pub is_area-moved : (a : Area) (d : Point) → IsTrue (is_area a) → IsTrue (rect_movable a d)
    → IsTrue (is_area (rect_moved a d))
is_area-moved a d area movable = grind (arith, is_side-moved)

-- what lies along a side lies between its ends
along : (low at : ℤ) (size : ℕ) → IsTrue (int_le (pos 0) (at -ℤ low))
    → IsTrue (int_le (at -ℤ low) (pos size)) → (low ≤ℤ at) × (at ≤ℤ (low +ℤ pos size))
along low at size first last = (omega (arith, ints), omega (arith, ints))

-- what a box holds lies between its corners
rect_holds-within : (a : Area) (p : Point) → IsTrue (rect_holds a p)
    → IsInBounds (record { low = a.low; high = far_corner a }) p
rect_holds-within a p h =
    let bottom = and_parts _ _ h in
    let top = and_parts _ _ bottom.0 in
    let sides = and_parts _ _ top.0 in
    let x = along a.low.x p.x a.width sides.0 sides.1 in
    let y = along a.low.y p.y a.height top.1 bottom.1 in
    record { left = x.0; right = x.1; top = y.0; bottom = y.1 }

-- a box holds both its corners
rect_holds-low : (a : Area) → IsTrue (rect_holds a a.low)
rect_holds-low a = grind (arith, ints)

rect_holds-far : (a : Area) → IsTrue (rect_holds a (far_corner a))
rect_holds-far a = simp gap_past (grind (arith, ints))

-- the bounds law
pub rect_bounds : (a : Area) → IsBounds (rect_holds a) (record { low = a.low; high = far_corner a })
rect_bounds a = record {
  within = rect_holds-within a;
  left = (a.low, rect_holds-low a, refl);
  right = (far_corner a, rect_holds-far a, refl);
  top = (a.low, rect_holds-low a, refl);
  bottom = (far_corner a, rect_holds-far a, refl);
}

-- both ends of a side lie within reach
is_side-reached : (low : ℤ) (size : ℕ) → IsTrue (is_side low size)
    → IsTrue (is_reached low) × IsTrue (is_reached (low +ℤ pos size))
unfolding is_side is_reached
is_side-reached low size h = (grind (arith, ints), grind (arith, ints))

-- the corners of a box, the first one again, are a lawful ring
pub IsRing-corners_again : (a : Area) → IsTrue (is_area a)
    → IsRing (record { boxed = true; points = corners_again a })
IsRing-corners_again a h =
    let sides = and_parts _ _ h in
    let x = is_side-reached a.low.x a.width sides.0 in
    let y = is_side-reached a.low.y a.height sides.1 in
    record {
      least = omega arith;
      most = omega arith;
      box = λ _. refl;
      closed = refl;
      reach = All-from_recursion (λ p. IsTrue (is_within_reach p)) (corners_again a) (
        and_from _ _ x.0 y.0,
        (
          and_from _ _ x.1 y.0,
          (and_from _ _ x.1 y.1, (and_from _ _ x.0 y.1, (and_from _ _ x.0 y.0, tt))),
        ),
      );
    }
