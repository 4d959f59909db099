-- A point off an edge that passes its height lies strictly on one side of it. No public clause
-- cites this module.
use Rattle.std.specs.Prelude.{◌≡◌, ℕ, zero, suc, ◌+◌, ◌*◌, ◌≤◌, ◌<◌, Bool}
use Rattle.std.specs.Prelude.{true, false, ◌&&◌, ◌⊎◌, ℤ, pos, negsuc, ◌-ℤ◌}
use Rattle.std.specs.Prelude.{◌*ℤ◌, ◌≤ℤ◌, ◌<ℤ◌, int_le, int_lt}
use Rattle.std.proofs.Common.{inl, inr, arith, refl, sym, ◌∙◌}
use Rattle.std.proofs.Math.Nat.{mul-le-mul_left}
use Rattle.std.proofs.lemmas.Bool.{cases_Bool, and_from, or_left, or_right, false≢true}
use Rattle.std.proofs.lemmas.Bool.Decides.{Decides-int_eq}
use Rattle.std.proofs.lemmas.Int.{ints, by_lt_z}
use Rattle.gf_plane.specs.declared.point.Point.{Point}
use Rattle.gf_shape.specs.Edges.{side, is_between, is_on_line, is_on_edge}

pub lt_products : (m n k s : ℕ) → m < s → n ≤ k → 0 < k → m * n < k * s
lt_products m n k s h l p = let x : m * n ≤ m * k = mul-le-mul_left m l
    in let y : k * (m + 1) ≤ k * s = mul-le-mul_left k (omega arith) in omega arith

pub one_le_product : (k s : ℕ) → 0 < k → 0 < s → 0 < k * s
one_le_product k s h l = lt_products 0 0 k s l (omega arith) h

-- the four signs of `side` where both ends are right of the point, or both left of it
right_up : (u v w t : ℤ) → u <ℤ t → pos 0 <ℤ t → pos 0 ≤ℤ v → v <ℤ w
    → (u *ℤ v) <ℤ (w *ℤ t)
right_up (pos m) (pos n) (pos k) (pos s) h p q l =
    let x = lt_products m n k s (omega (arith, ints)) (omega (arith, ints)) (omega (arith, ints))
    in omega (arith, ints)
right_up (negsuc m) (pos n) (pos k) (pos s) h p q l =
    let x = one_le_product k s (omega (arith, ints)) (omega (arith, ints)) in omega (arith, ints)
right_up u v w t h p q l = absurd (omega (arith, ints))

right_down : (u v w t : ℤ) → u <ℤ t → pos 0 <ℤ t → w ≤ℤ v → v <ℤ pos 0
    → (w *ℤ t) <ℤ (u *ℤ v)
right_down (pos m) (negsuc n) (negsuc k) (pos s) h p q l =
    let x = lt_products m (n + 1) (k + 1) s (omega (arith, ints)) (omega (arith, ints))
    (omega (arith, ints)) in omega (arith, ints)
right_down (negsuc m) (negsuc n) (negsuc k) (pos s) h p q l =
    let x = one_le_product (k + 1) s (omega (arith, ints)) (omega (arith, ints))
    in omega (arith, ints)
right_down u v w t h p q l = absurd (omega (arith, ints))

left_up : (u v w t : ℤ) → t <ℤ u → t <ℤ pos 0 → pos 0 ≤ℤ v → v <ℤ w
    → (w *ℤ t) <ℤ (u *ℤ v)
left_up (negsuc m) (pos n) (pos k) (negsuc s) h p q l =
    let x = lt_products (m + 1) n k (s + 1) (omega (arith, ints)) (omega (arith, ints))
    (omega (arith, ints)) in omega (arith, ints)
left_up (pos m) (pos n) (pos k) (negsuc s) h p q l =
    let x = one_le_product k (s + 1) (omega (arith, ints)) (omega (arith, ints))
    in omega (arith, ints)
left_up u v w t h p q l = absurd (omega (arith, ints))

left_down : (u v w t : ℤ) → t <ℤ u → t <ℤ pos 0 → w ≤ℤ v → v <ℤ pos 0
    → (u *ℤ v) <ℤ (w *ℤ t)
left_down (negsuc m) (negsuc n) (negsuc k) (negsuc s) h p q l =
    let x = lt_products (m + 1) (n + 1) (k + 1) (s + 1) (omega (arith, ints)) (omega (arith, ints))
    (omega (arith, ints)) in omega (arith, ints)
left_down (pos m) (negsuc n) (negsuc k) (negsuc s) h p q l =
    let x = one_le_product (k + 1) (s + 1) (omega (arith, ints)) (omega (arith, ints))
    in omega (arith, ints)
left_down u v w t h p q l = absurd (omega (arith, ints))

-- the point is right of both ends of an edge that passes its height, or left of both
pub side-right_up : (a b d : Point) → a.x <ℤ d.x → b.x <ℤ d.x → a.y ≤ℤ d.y
    → d.y <ℤ b.y → side (a, b) d <ℤ pos 0
unfolding side
side-right_up a b d p q h l = let x = right_up (b.x -ℤ a.x) (d.y -ℤ a.y) (b.y -ℤ a.y)
    (d.x -ℤ a.x) (omega (arith, ints)) (omega (arith, ints)) (omega (arith, ints))
    (omega (arith, ints)) in omega (arith, ints)

pub side-right_down : (a b d : Point) → a.x <ℤ d.x → b.x <ℤ d.x → b.y ≤ℤ d.y
    → d.y <ℤ a.y → pos 0 <ℤ side (a, b) d
unfolding side
side-right_down a b d p q h l =
    let x = right_down (b.x -ℤ a.x) (d.y -ℤ a.y) (b.y -ℤ a.y) (d.x -ℤ a.x)
    (omega (arith, ints)) (omega (arith, ints)) (omega (arith, ints)) (omega (arith, ints))
    in omega (arith, ints)

pub side-left_up : (a b d : Point) → d.x <ℤ a.x → d.x <ℤ b.x → a.y ≤ℤ d.y
    → d.y <ℤ b.y → pos 0 <ℤ side (a, b) d
unfolding side
side-left_up a b d p q h l = let x = left_up (b.x -ℤ a.x) (d.y -ℤ a.y) (b.y -ℤ a.y)
    (d.x -ℤ a.x) (omega (arith, ints)) (omega (arith, ints)) (omega (arith, ints))
    (omega (arith, ints)) in omega (arith, ints)

pub side-left_down : (a b d : Point) → d.x <ℤ a.x → d.x <ℤ b.x → b.y ≤ℤ d.y
    → d.y <ℤ a.y → side (a, b) d <ℤ pos 0
unfolding side
side-left_down a b d p q h l =
    let x = left_down (b.x -ℤ a.x) (d.y -ℤ a.y) (b.y -ℤ a.y) (d.x -ℤ a.x)
    (omega (arith, ints)) (omega (arith, ints)) (omega (arith, ints)) (omega (arith, ints))
    in omega (arith, ints)

up_is_between : (a m b : ℤ) → a ≤ℤ m → m ≤ℤ b → is_between a m b ≡ true
unfolding is_between
up_is_between a m b h l =
    or_left (int_le a m && int_le m b) _
    (and_from (int_le a m) (int_le m b) (grind (arith, ints)) (grind (arith, ints)))

down_is_between : (a m b : ℤ) → b ≤ℤ m → m ≤ℤ a → is_between a m b ≡ true
unfolding is_between
down_is_between a m b h l =
    or_right _ (int_le b m && int_le m a)
    (and_from (int_le b m) (int_le m a) (grind (arith, ints)) (grind (arith, ints)))

-- what is not before both nor past both is between
is_between-inside : (a m b : ℤ) → (m <ℤ a → m <ℤ b → ⊥)
    → (a <ℤ m → b <ℤ m → ⊥) → is_between a m b ≡ true
is_between-inside a m b f g =
    by_lt_z m a
    (λ h. by_lt_z m b (λ k. absurd (f h k)) (λ k. down_is_between a m b k (omega (arith, ints))))
    (λ h. by_lt_z b m (λ k. by_lt_z a m (λ l. absurd (g l k))
    (λ l. down_is_between a m b (omega (arith, ints)) l)) (λ k. up_is_between a m b h k))

pub is_on_line-from : (d a b : Point) → side (a, b) d ≡ pos 0 → is_on_line d (a, b) ≡ true
unfolding is_on_line
is_on_line-from d a b e = (Decides-int_eq (side (a, b) d) (pos 0)).1 e

-- on the line of an edge that passes its height, a point is on the edge
pub on_edge_from_line : (d a b : Point) → side (a, b) d ≡ pos 0
    → (int_le a.y d.y ≡ int_le b.y d.y → ⊥) → is_on_edge d (a, b) ≡ true
on_edge_from_line d a b e ne =
    let line = is_on_line-from d a b e in
    elim (cases_Bool (int_le a.y d.y)) [
      | inl h ↦ elim (cases_Bool (int_le b.y d.y)) [
        | inl k ↦ absurd (ne (h ∙ sym k))
        | inr k ↦ and_from _ _ (and_from _ _ line
            (is_between-inside a.x d.x b.x
            (λ p q. let s = side-left_up a b d p q (omega (arith, ints)) (omega (arith, ints))
            in omega (arith, ints)) (λ p q.
            let s = side-right_up a b d p q (omega (arith, ints)) (omega (arith, ints))
            in omega (arith, ints)))) (up_is_between a.y d.y b.y (omega (arith, ints))
            (omega (arith, ints)))
      ]
      | inr h ↦ elim (cases_Bool (int_le b.y d.y)) [
        | inl k ↦ and_from _ _ (and_from _ _ line
            (is_between-inside a.x d.x b.x
            (λ p q. let s = side-left_down a b d p q (omega (arith, ints)) (omega (arith, ints))
            in omega (arith, ints)) (λ p q.
            let s = side-right_down a b d p q (omega (arith, ints)) (omega (arith, ints))
            in omega (arith, ints)))) (down_is_between a.y d.y b.y (omega (arith, ints))
            (omega (arith, ints)))
        | inr k ↦ absurd (ne (h ∙ sym k))
      ]
    ]

-- exactly one of two tests is true
abbrev pub Strict : Bool → Bool → Type 0
Strict p n = ((p ≡ true) × (n ≡ false)) ⊎ ((p ≡ false) × (n ≡ true))

Strict-signs : (s : ℤ) → (s ≡ pos 0 → ⊥) → Strict (int_lt (pos 0) s) (int_lt s (pos 0))
Strict-signs (pos zero) ne = absurd (ne refl)
Strict-signs (pos (suc n)) ne = inl (grind (arith, ints), grind (arith, ints))
Strict-signs (negsuc n) ne = inr (refl, refl)

pub side_strict : (d a b : Point) → is_on_edge d (a, b) ≡ false
    → (int_le a.y d.y ≡ int_le b.y d.y → ⊥)
    → Strict (int_lt (pos 0) (side (a, b) d)) (int_lt (side (a, b) d) (pos 0))
side_strict d a b off ne =
    Strict-signs (side (a, b) d) (λ e. false≢true (sym off ∙ on_edge_from_line d a b e ne))
