-- The least bounds of points: those of more points, and that there are no two.
use Rattle.std.specs.Prelude.{None, Option, Some, ◌≤ℤ◌}
use Rattle.std.specs.Int.{int_max, int_min}
use Rattle.std.specs.List.{list_any}
use Rattle.std.proofs.Common.{◌≡◌, ◌⊎◌, ◌<◌, ◌≤◌, ◌+◌, ◌∙◌, ◌||◌, ◌∷◌, [], Bool, IsTrue, List}
use Rattle.std.proofs.Common.{ap, arith, false, get_or, inl, inr, length, refl, subst, sym, take}
use Rattle.std.proofs.Common.{true, ℕ, ℤ}
use Rattle.std.proofs.lemmas.Bool.{cases_Bool, or_left, or_right}
use Rattle.std.proofs.lemmas.Int.{by_lt_z, clamps, ints}
use Rattle.std.proofs.lemmas.List.{take_all, take_more}
use Rattle.std.proofs.lemmas.List.Folds.{list_any-append}
use Rattle.gf_shape.specs.declared.bounds.Bounds.{Bounds}
use Rattle.gf_plane.specs.declared.point.Point.{Point}
use Rattle.gf_shape.specs.ShapeLaws.{IsBounds, IsInBounds, Touches}
use Rattle.gf_figures.specs.declared.figure.Figure.{Figure}
use Rattle.gf_fit.specs.FittedWindow.{AreBounds, held}
use Rattle.gf_fit.specs.JoinedBounds.{joined, widened}

lesser : (a b : ℤ) → (int_min a b ≡ a) ⊎ (int_min a b ≡ b)
lesser a b =
    by_lt_z b a (λ l. inr (omega (arith, ints, clamps))) (λ l. inl (omega (arith, ints, clamps)))

greater : (a b : ℤ) → (int_max a b ≡ a) ⊎ (int_max a b ≡ b)
greater a b =
    by_lt_z a b (λ l. inr (omega (arith, ints, clamps))) (λ l. inl (omega (arith, ints, clamps)))

-- what lies within the one or the other of two bounds lies within both joined
module _ (a b : Bounds) (p : Point) where
  within_first : IsInBounds a p → IsInBounds (joined a b) p
  within_first w = record {
    left = omega (arith, ints, clamps, w.left);
    right = omega (arith, ints, clamps, w.right);
    top = omega (arith, ints, clamps, w.top);
    bottom = omega (arith, ints, clamps, w.bottom);
  }

  within_second : IsInBounds b p → IsInBounds (joined a b) p
  within_second w = record {
    left = omega (arith, ints, clamps, w.left);
    right = omega (arith, ints, clamps, w.right);
    top = omega (arith, ints, clamps, w.top);
    bottom = omega (arith, ints, clamps, w.bottom);
  }

-- the points that A holds, or B
module _ (A B : Point → Bool) where
  abbrev either : Point → Bool
  either p = A p || B p

  from_either : {P : Type 0} (p : Point) → IsTrue (either p) → (IsTrue (A p) → P)
      → (IsTrue (B p) → P) → P
  from_either p h f g = elim (cases_Bool (A p)) [
    | inl e ↦ f e
    | inr e ↦ g (rw e at h)
  ]

  module _ (coordinate : Point → ℤ) where
    touched_first : (n : ℤ) → Touches A coordinate n → Touches either coordinate n
    touched_first n (p, h, e) = (p, or_left (A p) (B p) h, e)

    touched_second : (n : ℤ) → Touches B coordinate n → Touches either coordinate n
    touched_second n (p, h, e) = (p, or_right (A p) (B p) h, e)

    -- a side of the one or of the other is touched
    touched : (m n k : ℤ) → Touches A coordinate m → Touches B coordinate n
        → (k ≡ m) ⊎ (k ≡ n) → Touches either coordinate k
    touched m n k a b (inl is) = rw is (touched_first m a)
    touched m n k a b (inr is) = rw is (touched_second n b)

  around : (a b : Bounds) → IsBounds A a → IsBounds B b → IsBounds either (joined a b)
  around a b x y = record {
    within = λ p h. from_either p h
        (λ e. within_first a b p (x.within p e)) (λ e. within_second a b p (y.within p e));
    left = touched (λ p. p.x) a.low.x b.low.x _ x.left y.left (lesser a.low.x b.low.x);
    right = touched (λ p. p.x) a.high.x b.high.x _ x.right y.right (greater a.high.x b.high.x);
    top = touched (λ p. p.y) a.low.y b.low.y _ x.top y.top (lesser a.low.y b.low.y);
    bottom = touched (λ p. p.y) a.high.y b.high.y _ x.bottom y.bottom (greater a.high.y b.high.y);
  }

  alone : (b : Bounds) → ((p : Point) → A p ≡ false) → IsBounds B b → IsBounds either b
  alone b none y = record {
    within = λ p h. y.within p (rw (none p) at h);
    left = touched_second (λ p. p.x) b.low.x y.left;
    right = touched_second (λ p. p.x) b.high.x y.right;
    top = touched_second (λ p. p.y) b.low.y y.top;
    bottom = touched_second (λ p. p.y) b.high.y y.bottom;
  }

  wider : (a : Option Bounds) (b : Bounds) → AreBounds A a → IsBounds B b
      → IsBounds either (widened a b)
  wider None b none y = alone b none y
  wider (Some a) b x y = around a b x y

or_none : (x y : Bool) → (x || (y || false)) ≡ (x || y)
or_none true y = refl
or_none false true = refl
or_none false false = refl

module _ {S : Type 0} (holds : S → Point → Bool) (fs : List (Figure S)) (i : ℕ) where
  held_more : (d f : Figure S) → i < length fs → f ≡ get_or fs i d → (p : Point)
      → either (held holds (take i fs)) (holds f.shape) p ≡ held holds (take (i + 1) fs) p
  held_more d f lt item p =
      let holds_p : Figure S → Bool = λ g. holds g.shape p in
      let front = held holds (take i fs) p in
      let last : list_any holds_p (get_or fs i d ∷ []) ≡ (holds f.shape p || false)
      = rw item refl in
      sym (ap (λ (gs : List (Figure S)). held holds gs p) (take_more fs i d lt)
      ∙ (list_any-append holds_p (take i fs) (get_or fs i d ∷ [])
      ∙ (ap (λ (x : Bool). front || x) last ∙ or_none front (holds f.shape p))))

  -- the bounds of one figure more
  pub bounds_more : (d : Figure S) (a : Option Bounds) (b new : Bounds) → i < length fs
      → AreBounds (held holds (take i fs)) a → (f : Figure S) → f ≡ get_or fs i d
      → IsBounds (holds f.shape) b → new ≡ widened a b
      → AreBounds (held holds (take (i + 1) fs)) (Some new)
  bounds_more d a b new lt x f item y is =
      let all = wider (held holds (take i fs)) (holds f.shape) a b x y in
      rw is (subst (λ h. IsBounds h (widened a b)) (λ k p. held_more d f lt item p k) all)

  -- the bounds of all
  pub all_taken : (a : Option Bounds) → length fs ≤ i → AreBounds (held holds (take i fs)) a
      → AreBounds (held holds fs) a
  all_taken a le x =
      subst (λ (gs : List (Figure S)). AreBounds (held holds gs) a) (take_all i fs le) x

-- one bound of a side at most
module _ (holds : Point → Bool) (coordinate : Point → ℤ) (m n : ℤ) where
  lower : Touches holds coordinate m → ((p : Point) → IsTrue (holds p) → n ≤ℤ coordinate p)
      → n ≤ℤ m
  lower (p, h, e) least = rw e at (least p h)

  higher : Touches holds coordinate m → ((p : Point) → IsTrue (holds p) → coordinate p ≤ℤ n)
      → m ≤ℤ n
  higher (p, h, e) most = rw e at (most p h)

same : (m n : ℤ) → m ≤ℤ n → n ≤ℤ m → m ≡ n
same m n p q = omega (arith, ints)

-- of least bounds, each lies in the other
module _ (holds : Point → Bool) (a b : Bounds) (x : IsBounds holds a) (y : IsBounds holds b) where
  left_least : a.low.x ≤ℤ b.low.x
  left_least = lower holds (λ p. p.x) _ _ y.left (λ p h. (x.within p h).left)

  top_least : a.low.y ≤ℤ b.low.y
  top_least = lower holds (λ p. p.y) _ _ y.top (λ p h. (x.within p h).top)

  right_most : b.high.x ≤ℤ a.high.x
  right_most = higher holds (λ p. p.x) _ _ y.right (λ p h. (x.within p h).right)

  bottom_most : b.high.y ≤ℤ a.high.y
  bottom_most = higher holds (λ p. p.y) _ _ y.bottom (λ p h. (x.within p h).bottom)

  -- the ends of the bounds are in order
  pub in_order : (a.low.x ≤ℤ a.high.x) × (a.low.y ≤ℤ a.high.y)
  in_order = (
    higher holds (λ p. p.x) _ _ x.left (λ p h. (x.within p h).right),
    higher holds (λ p. p.y) _ _ x.top (λ p h. (x.within p h).bottom),
  )

-- there is one
pub one_bounds : (holds : Point → Bool) (a b : Bounds) → IsBounds holds a → IsBounds holds b → a ≡ b
one_bounds holds a b x y =
    let left = same a.low.x b.low.x (left_least holds a b x y) (left_least holds b a y x) in
    let top = same a.low.y b.low.y (top_least holds a b x y) (top_least holds b a y x) in
    let right = same a.high.x b.high.x (right_most holds b a y x) (right_most holds a b x y) in
    let bottom = same a.high.y b.high.y (bottom_most holds b a y x) (bottom_most holds a b x y) in
    λ k. record {
      low = record { x = left k; y = top k };
      high = record { x = right k; y = bottom k };
    }
