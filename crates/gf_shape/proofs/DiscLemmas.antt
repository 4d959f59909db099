-- The bounds of a disc.
use Rattle.std.specs.Prelude.{◌≡◌, ℕ, ◌+◌, ◌*◌, ◌≤◌, ℤ, pos, negsuc, ◌+ℤ◌, ◌-ℤ◌, ◌*ℤ◌, ◌≤ℤ◌, IsTrue}
use Rattle.std.specs.Prelude.{int_le, refl}
use Rattle.std.proofs.Common.{arith}
use Rattle.std.proofs.lemmas.Int.{ints, by_lt_z}
use Rattle.gf_shape.specs.declared.bounds.Bounds.{Bounds}
use Rattle.gf_plane.specs.declared.point.Point.{Point}
use Rattle.gf_shape.specs.Round.{Round}
use Rattle.gf_shape.specs.ShapeLaws.{IsBounds, IsInBounds}
use Rattle.gf_shape.specs.ShapeMeaning.{circle_holds, round_holds}
use Rattle.gf_shape.specs.Laws.Moved.{gap_past, gap_same}
use Rattle.gf_shape.specs.Laws.Sides.{lt_products}

-- what has no greater square than n lies within n
square_within : (m k n : ℕ) → m * m + k * k ≤ n * n → m ≤ n
square_within m k n h =
    by_lt_z (pos n) (pos m) (λ past. let more = lt_products n n m m (omega (arith, ints))
    (omega (arith, ints)) (omega (arith, ints)) in
    absurd (omega arith)) (λ upto. omega (arith, ints))

-- both sides of a right angle lie within its far side
side_within : (u v : ℤ) (n : ℕ) → IsTrue (int_le (u *ℤ u +ℤ v *ℤ v) (pos (n * n)))
    → ((pos 0 -ℤ pos n) ≤ℤ u) × (u ≤ℤ pos n)
side_within (pos m) (pos k) n h = let w = square_within m k n (omega (arith, ints)) in
    (omega (arith, ints), omega (arith, ints))
side_within (pos m) (negsuc k) n h = let w = square_within m (k + 1) n (omega (arith, ints)) in
    (omega (arith, ints), omega (arith, ints))
side_within (negsuc m) (pos k) n h = let w = square_within (m + 1) k n (omega (arith, ints)) in
    (omega (arith, ints), omega (arith, ints))
side_within (negsuc m) (negsuc k) n h = let w = square_within (m + 1) (k + 1) n
    (omega (arith, ints)) in (omega (arith, ints), omega (arith, ints))

turned : (u v : ℤ) → u *ℤ u +ℤ v *ℤ v ≡ v *ℤ v +ℤ u *ℤ u
turned u v = omega (arith, ints)

-- the least bounds of the disc r
abbrev pub round_bounds : Round → Bounds
round_bounds r = record {
  low = record { x = r.centre.x -ℤ pos r.radius; y = r.centre.y -ℤ pos r.radius };
  high = record { x = r.centre.x +ℤ pos r.radius; y = r.centre.y +ℤ pos r.radius };
}

round_holds-within : (r : Round) (p : Point) → IsTrue (round_holds r p)
    → IsInBounds (round_bounds r) p
round_holds-within r p h =
    let x = side_within (p.x -ℤ r.centre.x) (p.y -ℤ r.centre.y) r.radius h in
    let y = side_within (p.y -ℤ r.centre.y) (p.x -ℤ r.centre.x) r.radius
    (rw (turned (p.y -ℤ r.centre.y) (p.x -ℤ r.centre.x)) h) in
    record {
      left = omega (arith, ints);
      right = omega (arith, ints);
      top = omega (arith, ints);
      bottom = omega (arith, ints);
    }

pub gap_before : (a n : ℤ) → (a -ℤ n) -ℤ a ≡ pos 0 -ℤ n
gap_before a n = omega (arith, ints)

-- a circle holds the four points on its axes
left_held : (n : ℕ) → IsTrue (circle_holds n (record { x = pos 0 -ℤ pos n; y = pos 0 }))
left_held n = grind (arith, ints)

right_held : (n : ℕ) → IsTrue (circle_holds n (record { x = pos n; y = pos 0 }))
right_held n = grind (arith, ints)

top_held : (n : ℕ) → IsTrue (circle_holds n (record { x = pos 0; y = pos 0 -ℤ pos n }))
top_held n = grind (arith, ints)

bottom_held : (n : ℕ) → IsTrue (circle_holds n (record { x = pos 0; y = pos n }))
bottom_held n = grind (arith, ints)

-- the bounds law
pub IsBounds-round : (r : Round) → IsBounds (round_holds r) (round_bounds r)
IsBounds-round r = record {
  within = round_holds-within r;
  left = (
    record { x = r.centre.x -ℤ pos r.radius; y = r.centre.y },
    rw (gap_before r.centre.x (pos r.radius), gap_same r.centre.y) (left_held r.radius),
    refl,
  );
  right = (
    record { x = r.centre.x +ℤ pos r.radius; y = r.centre.y },
    rw (gap_past r.centre.x (pos r.radius), gap_same r.centre.y) (right_held r.radius),
    refl,
  );
  top = (
    record { x = r.centre.x; y = r.centre.y -ℤ pos r.radius },
    rw (gap_same r.centre.x, gap_before r.centre.y (pos r.radius)) (top_held r.radius),
    refl,
  );
  bottom = (
    record { x = r.centre.x; y = r.centre.y +ℤ pos r.radius },
    rw (gap_same r.centre.x, gap_past r.centre.y (pos r.radius)) (bottom_held r.radius),
    refl,
  );
}
