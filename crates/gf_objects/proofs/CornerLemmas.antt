-- The chain round the corners of a box, in any order, holds what the box holds.
use Rattle.std.proofs.Common.{◌≡◌, true, ◌||◌, ap, ◌∙◌, inl, inr, arith}
use Rattle.std.specs.Int.{int_min}
use Rattle.std.specs.Ordering.{int_eq}
use Rattle.std.specs.Prelude.{◌⊎◌, ℤ, pos, ◌+ℤ◌, ◌-ℤ◌, unsigned_abs}
use Rattle.std.proofs.lemmas.Bool.{and_parts, cases_Bool}
use Rattle.std.proofs.lemmas.Bool.Decides.{Decides-int_eq}
use Rattle.std.proofs.lemmas.Int.{ints, by_lt_z}
use Rattle.gf_plane.specs.declared.point.Point.{Point}
use Rattle.gf_shape.specs.Area.{Area}
use Rattle.gf_shape.specs.FigureMeaning.{chain_holds}
use Rattle.gf_shape.specs.ShapeMeaning.{rect_holds}
use Rattle.gf_shape.specs.Laws.BoxOutline.{chain_holds-corners_again}
use Rattle.gf_objects.specs.Boxes.{are_between, are_corners, are_opposite, is_at, least_corner}
use Rattle.gf_objects.proofs.RingLemmas.{ring, ring_turned, ring_back}

-- a point of these coordinates
abbrev at : ℤ → ℤ → Point
at x y = record { x = x; y = y }

-- the box of the opposite corners a and c
abbrev pub area_of : Point → Point → Area
area_of a c = record {
  low = least_corner a c;
  width = unsigned_abs (c.x -ℤ a.x);
  height = unsigned_abs (c.y -ℤ a.y);
}

-- the side between m and n goes from low to high
record IsSide (m n low high : ℤ) : Type 0 where
  pub first : int_min m n ≡ low
  pub last : int_min m n +ℤ pos (unsigned_abs (n -ℤ m)) ≡ high

side_of : (m n : ℤ) → IsSide m n m n ⊎ IsSide m n n m
side_of m n = by_lt_z m n
    (λ h. inl (record { first = grind (arith, ints); last = grind (arith, ints) }))
    (λ h. inr (record { first = grind (arith, ints); last = grind (arith, ints) }))

point_told : (p : Point) (x y : ℤ) → is_at p x y ≡ true → p ≡ at x y
unfolding is_at
point_told p x y t =
    let b = and_parts (int_eq p.x x) (int_eq p.y y) t in
    let e = (Decides-int_eq p.x x).0 b.0 in
    let f = (Decides-int_eq p.y y).0 b.1 in
    λ i. record { x = e i; y = f i }

module _ (a c p : Point) where
  -- the ring clockwise from the least corner of a box
  box_ring : (left right top bottom : ℤ) → IsSide a.x c.x left right
      → IsSide a.y c.y top bottom
      → chain_holds (ring (at left top) (at right top) (at right bottom) (at left bottom)) p
      ≡ rect_holds (area_of a c) p
  box_ring left right top bottom x y = rw (← x.first, ← x.last, ← y.first, ← y.last)
      (chain_holds-corners_again (area_of a c) p)

  -- the ring that goes level from a
  level : chain_holds (ring a (at c.x a.y) c (at a.x c.y)) p ≡ rect_holds (area_of a c) p
  level = elim (side_of a.x c.x) [
    | inl x ↦ elim (side_of a.y c.y) [
      | inl y ↦ box_ring a.x c.x a.y c.y x y
      | inr y ↦ ring_back a (at c.x a.y) c (at a.x c.y) p
          ∙ (ring_turned (at c.x a.y) a (at a.x c.y) c p
          ∙ (ring_turned a (at a.x c.y) c (at c.x a.y) p ∙ box_ring a.x c.x c.y a.y x y))
    ]
    | inr x ↦ elim (side_of a.y c.y) [
      | inl y ↦ ring_back a (at c.x a.y) c (at a.x c.y) p ∙ box_ring c.x a.x a.y c.y x y
      | inr y ↦ ring_turned a (at c.x a.y) c (at a.x c.y) p
          ∙ (ring_turned (at c.x a.y) c (at a.x c.y) a p ∙ box_ring c.x a.x c.y a.y x y)
    ]
  ]

  between : (b d : Point) → are_between a b c d ≡ true
      → chain_holds (ring a b c d) p ≡ rect_holds (area_of a c) p
  between b d t =
      let two = and_parts (is_at b c.x a.y) (is_at d a.x c.y) t in
      let e = point_told b c.x a.y two.0 in
      let f = point_told d a.x c.y two.1 in
      ap (λ q. chain_holds (ring a q c d) p) e
      ∙ (ap (λ q. chain_holds (ring a (at c.x a.y) c q) p) f ∙ level)

pub corners_hold : (a b c d p : Point) → are_corners a b c d ≡ true
    → chain_holds (ring a b c d) p ≡ rect_holds (area_of a c) p
corners_hold a b c d p t =
    let parts = and_parts (are_opposite a c) (are_between a b c d || are_between a d c b) t in
    elim (cases_Bool (are_between a b c d)) [
      | inl k ↦ between a c p b d k
      | inr k ↦ ring_back a b c d p ∙ (ring_turned b a d c p
          ∙ between a c p d b (rw k at parts.1))
    ]
