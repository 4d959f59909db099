-- The chain of a box's corners holds by the ray to the left what the box holds. No public clause
-- cites this module.
use Rattle.std.specs.Prelude.{◌≡◌, ℕ, ◌+◌, ◌%◌, ℤ, pos, ◌+ℤ◌, ◌-ℤ◌}
use Rattle.std.specs.Prelude.{◌≤ℤ◌, ◌<ℤ◌, Bool, true, false, not, cond, ◌&&◌}
use Rattle.std.specs.Prelude.{◌||◌, int_le, int_lt, nat_eq, refl, [], ◌∷◌}
use Rattle.std.proofs.Common.{arith, inl, inr}
use Rattle.std.proofs.Math.Bool.{and-false, or-false}
use Rattle.std.proofs.Math.IntN.{*ℤ-zero, zero-*ℤ}
use Rattle.std.proofs.lemmas.Int.{ints, by_lt_z}
use Rattle.std.proofs.lemmas.Bool.{cases_Bool}
use Rattle.gf_plane.specs.declared.point.Point.{Point}
use Rattle.gf_shape.specs.Area.{Area, corners_again}
use Rattle.gf_shape.specs.Edges.{side, is_on_line, is_between, is_on_edge, crosses_left}
use Rattle.gf_shape.specs.ShapeMeaning.{rect_holds}
use Rattle.gf_shape.specs.FigureMeaning.{chain_holds}
use Rattle.gf_shape.specs.Laws.Moved.{gap_same}
use Rattle.gf_shape.specs.Laws.Sides.{side-right_up, side-right_down, side-left_up, side-left_down}

-- a point of these coordinates
abbrev at : ℤ → ℤ → Point
at x y = record { x = x; y = y }

-- n lies at a
abbrev is_at : ℤ → ℤ → Bool
is_at a n = int_le a n && int_le n a

-- a point at the height of a level edge lies on its line
is_on_line-level : (p : Point) (a b y : ℤ) → p.y ≡ y
    → is_on_line p (at a y, at b y) ≡ true
unfolding side is_on_line
is_on_line-level p a b y e = rw e (simp (gap_same, *ℤ-zero, zero-*ℤ))

side-upright : (p : Point) (x a b : ℤ) → p.x ≡ x → side (at x a, at x b) p ≡ pos 0
unfolding side
side-upright p x a b e = rw e (simp (gap_same, *ℤ-zero, zero-*ℤ))

-- a point straight above or below an upright edge lies on its line
is_on_line-upright : (p : Point) (x a b : ℤ) → p.x ≡ x
    → is_on_line p (at x a, at x b) ≡ true
unfolding is_on_line
is_on_line-upright p x a b e = rw (side-upright p x a b e)

-- no ray crosses a level edge
crosses_left-level : (p : Point) (a b y : ℤ) → crosses_left p (at a y, at b y) ≡ false
crosses_left-level p a b y = elim (cases_Bool (int_le y p.y)) [
  | inl h ↦ rw h
  | inr h ↦ rw h
]

is_between-same : (a n : ℤ) → is_between a n a ≡ true → n ≡ a
unfolding is_between
is_between-same a n h = grind (arith, ints)

is_on_edge-level : (p : Point) (a b y : ℤ)
    → is_on_edge p (at a y, at b y) ≡ (is_between a p.x b && is_between y p.y y)
is_on_edge-level p a b y = elim (cases_Bool (is_between y p.y y)) [
  | inl h ↦ rw (is_on_line-level p a b y (is_between-same y p.y h))
  | inr h ↦ rw (h, and-false, and-false)
]

is_on_edge-upright : (p : Point) (x a b : ℤ)
    → is_on_edge p (at x a, at x b) ≡ (is_between x p.x x && is_between a p.y b)
is_on_edge-upright p x a b = elim (cases_Bool (is_between x p.x x)) [
  | inl h ↦ rw (is_on_line-upright p x a b (is_between-same x p.x h))
  | inr h ↦ rw (h, and-false)
]

-- where an upright edge climbs past p, the ray to the left crosses it exactly if p is past it
climbs-past : (p : Point) (x a b : ℤ) → int_le a p.y ≡ true → int_le b p.y ≡ false
    → int_lt (side (at x a, at x b) p) (pos 0) ≡ not (int_le p.x x)
climbs-past p x a b h l =
    by_lt_z x p.x
    (λ past. let s = side-right_up (at x a) (at x b) p past past (omega (arith, ints))
    (omega (arith, ints)) in grind (arith, ints))
    (λ upto. by_lt_z p.x x
    (λ left. let s = side-left_up (at x a) (at x b) p left left (omega (arith, ints))
    (omega (arith, ints)) in grind (arith, ints))
    (λ from. let s = side-upright p x a b (omega (arith, ints)) in rw s (grind (arith, ints))))

falls-past : (p : Point) (x a b : ℤ) → int_le b p.y ≡ true → int_le a p.y ≡ false
    → int_lt (pos 0) (side (at x a, at x b) p) ≡ not (int_le p.x x)
falls-past p x a b h l =
    by_lt_z x p.x
    (λ past. let s = side-right_down (at x a) (at x b) p past past (omega (arith, ints))
    (omega (arith, ints)) in grind (arith, ints))
    (λ upto. by_lt_z p.x x
    (λ left. let s = side-left_down (at x a) (at x b) p left left (omega (arith, ints))
    (omega (arith, ints)) in grind (arith, ints))
    (λ from. let s = side-upright p x a b (omega (arith, ints)) in rw s (grind (arith, ints))))

-- one of the two tests is true and the other is not
abbrev differ : Bool → Bool → Bool
differ a b = (a && not b) || (b && not a)

crosses_left-upright : (p : Point) (x a b : ℤ)
    → crosses_left p (at x a, at x b)
    ≡ (differ (int_le a p.y) (int_le b p.y) && not (int_le p.x x))
crosses_left-upright p x a b = elim (cases_Bool (int_le a p.y)) [
  | inl h ↦ elim (cases_Bool (int_le b p.y)) [
    | inl k ↦ rw (h, k)
    | inr k ↦ rw (h, k, climbs-past p x a b h k, or-false)
  ]
  | inr h ↦ elim (cases_Bool (int_le b p.y)) [
    | inl k ↦ rw (h, k, falls-past p x a b k h)
    | inr k ↦ rw (h, k)
  ]
]

-- where n lies along a side: whether low ≤ n, n ≤ low, n ≤ high and high ≤ n
data Along : Bool → Bool → Bool → Bool → Type 0 where
  Before : Along false true true false
  First : Along true true true false
  Only : Along true true true true
  Inside : Along true false true false
  Last : Along true false true true
  Past : Along true false false true

le_true : (m n : ℤ) → m ≤ℤ n → int_le m n ≡ true
le_true m n h = grind (arith, ints)

le_false : (m n : ℤ) → n <ℤ m → int_le m n ≡ false
le_false m n h = grind (arith, ints)

along : (low high n : ℤ) → low ≤ℤ high
    → Along (int_le low n) (int_le n low) (int_le n high) (int_le high n)
along low high n h =
    by_lt_z n low
    (λ k. rw (
      le_false low n k,
      le_true n low (omega (arith, ints)),
      le_true n high (omega (arith, ints)),
      le_false high n (omega (arith, ints)),
    ) Before)
    (λ k. by_lt_z low n
    (λ l. by_lt_z n high
    (λ m. rw (
      le_true low n k,
      le_false n low l,
      le_true n high (omega (arith, ints)),
      le_false high n m,
    ) Inside)
    (λ m. by_lt_z high n
    (λ o. rw (le_true low n k, le_false n low l, le_false n high o, le_true high n m) Past)
    (λ o. rw (le_true low n k, le_false n low l, le_true n high o, le_true high n m) Last)))
    (λ l. by_lt_z low high
    (λ m. rw (
      le_true low n k,
      le_true n low l,
      le_true n high (omega (arith, ints)),
      le_false high n (omega (arith, ints)),
    ) First)
    (λ m. rw (
      le_true low n k,
      le_true n low l,
      le_true n high (omega (arith, ints)),
      le_true high n (omega (arith, ints)),
    ) Only)))

-- the tests of a box's ring come to those of the box
ring_tests : {a b c d e f g h : Bool} → Along a b c d → Along e f g h →
    (((((a && c) || (d && b)) && ((e && f) || (e && f)))
    || ((((d && c) || (d && c)) && ((e && g) || (h && f)))
    || ((((d && b) || (a && c)) && ((h && g) || (h && g)))
    || ((((a && b) || (a && b)) && ((h && f) || (e && g)))
    || false))))
    || nat_eq ((0 + 0 + cond (differ e h && not c) 1 0 + 0 + cond (differ h e && not b) 1 0) % 2) 1)
    ≡ (((a && c) && e) && g)
ring_tests Before Before = refl
ring_tests First Before = refl
ring_tests Inside Before = refl
ring_tests Only Before = refl
ring_tests Last Before = refl
ring_tests Past Before = refl
ring_tests x y = refl

-- a ring round two sides holds what lies along both
chain_holds-ring : (left right top bottom : ℤ) (p : Point) → left ≤ℤ right
    → top ≤ℤ bottom →
    chain_holds (at left top ∷ at right top ∷ at right bottom ∷ at left bottom ∷ at left top
    ∷ []) p
    ≡ (((int_le left p.x && int_le p.x right) && int_le top p.y) && int_le p.y bottom)
unfolding is_between
chain_holds-ring left right top bottom p h l =
    simp (
      is_on_edge-level,
      is_on_edge-upright,
      crosses_left-level,
      crosses_left-upright,
    ) (ring_tests (along left right p.x h) (along top bottom p.y l))

from_low : (low n : ℤ) → int_le (pos 0) (n -ℤ low) ≡ int_le low n
from_low low n = grind (arith, ints)

to_high : (low n : ℤ) (size : ℕ)
    → int_le (n -ℤ low) (pos size) ≡ int_le n (low +ℤ pos size)
to_high low n size = grind (arith, ints)

from_low_to_high : (low : ℤ) (size : ℕ) → low ≤ℤ (low +ℤ pos size)
from_low_to_high low size = omega (arith, ints)

-- the outline law of boxes
pub chain_holds-corners_again : (a : Area) (p : Point)
    → chain_holds (corners_again a) p ≡ rect_holds a p
chain_holds-corners_again a p =
    rw (
      from_low a.low.x p.x,
      to_high a.low.x p.x a.width,
      from_low a.low.y p.y,
      to_high a.low.y p.y a.height,
    )
    (chain_holds-ring a.low.x (a.low.x +ℤ pos a.width) a.low.y (a.low.y +ℤ pos a.height) p
    (from_low_to_high a.low.x a.width) (from_low_to_high a.low.y a.height))
