-- A ring of four points holds the same from its second point on, and the other way round.
use borrow.Author.Differences.{up, down}
use Rattle.std.specs.Prelude.{◌≡◌, ℕ, ◌+◌, ◌*◌, ◌%◌, nat_eq, ℤ, pos, ◌-ℤ◌, ◌*ℤ◌}
use Rattle.std.specs.Prelude.{int_le, int_lt, Bool, false, cond, ◌&&◌, ◌||◌, refl}
use Rattle.std.specs.Prelude.{List, [], ◌∷◌}
use Rattle.std.specs.Ordering.{int_eq}
use Rattle.std.proofs.Common.{arith, ap}
use Rattle.std.proofs.Math.Bool.{or_assoc, or_comm, or-false}
use Rattle.std.proofs.Math.IntN.{neg_ℤ, *ℤ_comm}
use Rattle.std.proofs.lemmas.Bool.Decides.{Decides-int_eq, Decides-like, same_from_decides}
use Rattle.std.proofs.lemmas.Int.{ints}
use Rattle.gf_plane.specs.declared.point.Point.{Point}
use Rattle.gf_shape.specs.Edges.{side, is_on_line, is_between, is_on_edge}
use Rattle.gf_shape.specs.Edges.{climbs_past, falls_past, crosses_left}
use Rattle.gf_shape.specs.FigureMeaning.{chain_holds}

-- the closed chain of four points
abbrev pub ring : Point → Point → Point → Point → List Point
ring a b c d = a ∷ b ∷ c ∷ d ∷ a ∷ []

-- by the sizes of each number above and below 0
minus_times : (m n k : ℤ) → (m -ℤ n) *ℤ k ≡ m *ℤ k -ℤ n *ℤ k
minus_times m n k =
    let s : up (m -ℤ n) + down m + up n
    ≡ down (m -ℤ n) + up m + down n = omega (arith, ints) in
    omega (arith, ints, ap (λ x. x * up k) s, ap (λ x. x * down k) s)

times_minus : (k m n : ℤ) → k *ℤ (m -ℤ n) ≡ k *ℤ m -ℤ k *ℤ n
times_minus k m n = rw (*ℤ_comm k (m -ℤ n), *ℤ_comm k m, *ℤ_comm k n) (minus_times m n k)

-- from its other end on, an edge has each point on the other side
side-back : (a b p : Point) → side (b, a) p ≡ neg_ℤ (side (a, b) p)
unfolding side
side-back a b p = simp (minus_times, times_minus) (omega (arith, ints))

zero-back : (s : ℤ) → int_eq (neg_ℤ s) (pos 0) ≡ int_eq s (pos 0)
zero-back s = same_from_decides _ _ (Decides-like _ (λ e. omega (arith, ints, e))
    (λ e. omega (arith, ints, e)) (Decides-int_eq (neg_ℤ s) (pos 0))) (Decides-int_eq s (pos 0))

before-back : (s : ℤ) → int_lt (neg_ℤ s) (pos 0) ≡ int_lt (pos 0) s
before-back s = grind (arith, ints)

past-back : (s : ℤ) → int_lt (pos 0) (neg_ℤ s) ≡ int_lt s (pos 0)
past-back s = grind (arith, ints)

is_between-back : (a m b : ℤ) → is_between b m a ≡ is_between a m b
unfolding is_between
is_between-back a m b = or_comm (int_le b m && int_le m a) (int_le a m && int_le m b)

is_on_edge-back : (p a b : Point) → is_on_edge p (b, a) ≡ is_on_edge p (a, b)
unfolding is_on_line
is_on_edge-back p a b = rw (
  side-back a b p,
  zero-back (side (a, b) p),
  is_between-back a.x p.x b.x,
  is_between-back a.y p.y b.y,
) refl

crosses_left-back : (p a b : Point) → crosses_left p (b, a) ≡ crosses_left p (a, b)
crosses_left-back p a b = rw (
  side-back a b p,
  before-back (side (a, b) p),
  past-back (side (a, b) p),
) (or_comm
    (climbs_past p (b, a) && int_lt (pos 0) (side (a, b) p))
    (falls_past p (b, a) && int_lt (side (a, b) p) (pos 0)))

any_turned : (a b c d : Bool)
    → (a || (b || (c || (d || false)))) ≡ (b || (c || (d || (a || false))))
any_turned a b c d = rw (or_comm a (b || (c || (d || false)))) (simp (or_assoc, or-false))

any_back : (a b c d : Bool)
    → (a || (b || (c || (d || false)))) ≡ (a || (d || (c || (b || false))))
any_back a b c d = rw (or_comm b (c || (d || false)), or_comm c (d || false))
    (simp (or_assoc, or-false))

sum_turned : (k l m n : ℕ) → 0 + k + l + m + n ≡ 0 + l + m + n + k
sum_turned k l m n = omega arith

sum_back : (k l m n : ℕ) → 0 + k + l + m + n ≡ 0 + k + n + m + l
sum_back k l m n = omega arith

module _ (a b c d p : Point) where
  abbrev on : Point → Point → Bool
  on e f = is_on_edge p (e, f)

  abbrev bit : Point → Point → ℕ
  bit e f = cond (crosses_left p (e, f)) 1 0

  -- a ring that starts at the next point
  pub ring_turned : chain_holds (ring a b c d) p ≡ chain_holds (ring b c d a) p
  ring_turned =
      let edges = any_turned (on a b) (on b c) (on c d) (on d a) in
      let ray = sum_turned (bit a b) (bit b c) (bit c d) (bit d a) in
      λ i. edges i || nat_eq (ray i % 2) 1

  -- a ring that goes the other way round, from its second point on
  pub ring_back : chain_holds (ring a b c d) p ≡ chain_holds (ring b a d c) p
  ring_back =
      let edges = any_back (on a b) (on b c) (on c d) (on d a) in
      let ray = sum_back (bit a b) (bit b c) (bit c d) (bit d a) in
      rw (
        is_on_edge-back p a b,
        is_on_edge-back p d a,
        is_on_edge-back p c d,
        is_on_edge-back p b c,
        crosses_left-back p a b,
        crosses_left-back p d a,
        crosses_left-back p c d,
        crosses_left-back p b c,
      )
      (λ i. edges i || nat_eq (ray i % 2) 1)
