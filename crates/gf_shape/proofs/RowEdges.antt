-- What an edge does at a height: it passes at its crossing, or touches it in its contact, or
-- neither.
use Rattle.std.specs.Prelude.{◌≡◌, zero, suc, Bool, true, false, not, ◌&&◌, ◌||◌, ◌⊎◌, ℤ, pos}
use Rattle.std.specs.Prelude.{negsuc, ◌-ℤ◌, ◌*ℤ◌, ◌≤ℤ◌, ◌<ℤ◌, int_le, int_lt, refl, option_to_list}
use Rattle.std.specs.List.{list_any}
use Rattle.std.specs.Ordering.{int_eq}
use Rattle.std.specs.Int.{int_div_euclid, int_min, int_max}
use Rattle.std.proofs.Common.{arith, ap, sym, inl, inr, ◌∙◌}
use Rattle.std.proofs.Math.IntN.{neg_ℤ, neg_ℤ-neg_ℤ, *ℤ-zero, *ℤ-negsuc, *ℤ_comm, zero-*ℤ}
use Rattle.std.proofs.lemmas.Bool.{cases_Bool, false≢true}
use Rattle.std.proofs.lemmas.Int.{ints, by_lt_z, clamps}
use Rattle.gf_spans.specs.Crossings.{is_at, is_before, place}
use Rattle.gf_spans.specs.Spans.{is_in_span}
use Rattle.gf_spans.proofs.DivisionLemmas.{place_before, place_at, div_exact, one_le_product}
use Rattle.gf_spans.proofs.DivisionLemmas.{eq_test, ne_test, less_ne, more_ne}
use Rattle.gf_plane.specs.declared.point.Point.{Point}
use Rattle.gf_shape.specs.Edges.{side, is_between, is_on_line, is_on_edge, crosses_left}
use Rattle.gf_shape.specs.RowParts.{passes, crossing, contact, span_between}
use Rattle.gf_shape.specs.Laws.Sides.{on_edge_from_line}

abbrev pub at : ℤ → ℤ → Point
at x y = record { x = x; y = y }

product_turned : (u v : ℤ) → u *ℤ neg_ℤ v ≡ neg_ℤ (u *ℤ v)
product_turned u (pos zero) = *ℤ-zero u ∙ sym (ap neg_ℤ (*ℤ-zero u))
product_turned u (pos (suc n)) = *ℤ-negsuc u n
product_turned u (negsuc n) = sym (ap neg_ℤ (*ℤ-negsuc u n) ∙ neg_ℤ-neg_ℤ (u *ℤ pos (suc n)))

turned : (u v : ℤ) → u ≡ neg_ℤ v → (w : ℤ) → w *ℤ u ≡ neg_ℤ (w *ℤ v)
turned u v e w = ap (λ n. w *ℤ n) e ∙ product_turned w v

opposite : (m n : ℤ) → m -ℤ n ≡ neg_ℤ (n -ℤ m)
opposite m n = omega (arith, ints)

below_by_height : (x run rise height z : ℤ) → pos 0 <ℤ height
    → is_before z (place x run rise height) ≡ int_lt (run *ℤ rise) (height *ℤ (z -ℤ x))
below_by_height x run rise (pos h) z p = place_before x run rise h z (omega (arith, ints))
below_by_height x run rise (negsuc h) z p = absurd (omega (arith, ints))

at_by_height : (x run rise height z : ℤ) → pos 0 <ℤ height
    → is_at z (place x run rise height) ≡ int_eq (run *ℤ rise) (height *ℤ (z -ℤ x))
at_by_height x run rise (pos h) z p = place_at x run rise h z (omega (arith, ints))
at_by_height x run rise (negsuc h) z p = absurd (omega (arith, ints))

pub le_yes : (m n : ℤ) → m ≤ℤ n → int_le m n ≡ true
le_yes m n h = grind (arith, ints)

pub le_no : (m n : ℤ) → n <ℤ m → int_le m n ≡ false
le_no m n h = grind (arith, ints)

less_zero : (m n : ℤ) → int_lt (m -ℤ n) (pos 0) ≡ int_lt m n
less_zero m n = grind (arith, ints)

more_zero : (m n : ℤ) → int_lt (pos 0) (neg_ℤ m -ℤ neg_ℤ n) ≡ int_lt m n
more_zero m n = grind (arith, ints)

is_zero : (m n : ℤ) → int_eq (m -ℤ n) (pos 0) ≡ int_eq m n
is_zero m n = by_lt_z m n (λ l. less_ne (m -ℤ n) (pos 0) (omega (arith, ints))
    ∙ sym (less_ne m n l)) (λ l. by_lt_z n m (λ k. more_ne (m -ℤ n) (pos 0) (omega (arith, ints))
    ∙ sym (more_ne m n k)) (λ k. eq_test (m -ℤ n) (pos 0) (omega (arith, ints))
    ∙ sym (eq_test m n (omega (arith, ints)))))

is_zero_turned : (m n : ℤ) → int_eq (neg_ℤ m -ℤ neg_ℤ n) (pos 0) ≡ int_eq m n
is_zero_turned m n = by_lt_z m n (λ l. more_ne (neg_ℤ m -ℤ neg_ℤ n) (pos 0) (omega (arith, ints))
    ∙ sym (less_ne m n l)) (λ l. by_lt_z n m
    (λ k. less_ne (neg_ℤ m -ℤ neg_ℤ n) (pos 0) (omega (arith, ints)) ∙ sym (more_ne m n k))
    (λ k. eq_test (neg_ℤ m -ℤ neg_ℤ n) (pos 0) (omega (arith, ints))
    ∙ sym (eq_test m n (omega (arith, ints)))))

-- the side of an edge, with both differences of heights turned round
side_turned : (a b d : Point) → side (a, b) d ≡ neg_ℤ ((b.x -ℤ a.x) *ℤ (a.y -ℤ d.y)) -ℤ neg_ℤ
    ((a.y -ℤ b.y) *ℤ (d.x -ℤ a.x))
unfolding side
side_turned a b d =
    let u : (b.x -ℤ a.x) *ℤ (d.y -ℤ a.y) ≡ neg_ℤ ((b.x -ℤ a.x) *ℤ (a.y -ℤ d.y)) = turned _ _
    (opposite d.y a.y) (b.x -ℤ a.x) in
    let w : (b.y -ℤ a.y) *ℤ (d.x -ℤ a.x) ≡ neg_ℤ ((a.y -ℤ b.y) *ℤ (d.x -ℤ a.x)) =
    *ℤ_comm (b.y -ℤ a.y) (d.x -ℤ a.x) ∙ turned _ _ (opposite b.y a.y) (d.x -ℤ a.x)
    ∙ ap neg_ℤ (*ℤ_comm (d.x -ℤ a.x) (a.y -ℤ b.y)) in
    rw (u, w) refl

or_false : (b : Bool) → (b || false) ≡ b
or_false true = refl
or_false false = refl

climbing_crosses : (a b : Point) (x y : ℤ) → int_le a.y y ≡ true → int_le b.y y ≡ false
    → crosses_left (at x y) (a, b) ≡ is_before x (crossing y (a, b))
unfolding side
climbing_crosses a b x y h k = rw (h, k) (or_false _
    ∙ (less_zero ((b.x -ℤ a.x) *ℤ (y -ℤ a.y)) ((b.y -ℤ a.y) *ℤ (x -ℤ a.x))
    ∙ sym (below_by_height a.x (b.x -ℤ a.x) (y -ℤ a.y) (b.y -ℤ a.y) x (omega (arith, ints)))))

falling_crosses : (a b : Point) (x y : ℤ) → int_le a.y y ≡ false → int_le b.y y ≡ true
    → crosses_left (at x y) (a, b) ≡ is_before x (crossing y (a, b))
falling_crosses a b x y h k = rw (h, k, side_turned a b (at x y))
    (more_zero ((b.x -ℤ a.x) *ℤ (a.y -ℤ y)) ((a.y -ℤ b.y) *ℤ (x -ℤ a.x))
    ∙ sym (below_by_height a.x (b.x -ℤ a.x) (a.y -ℤ y) (a.y -ℤ b.y) x (omega (arith, ints))))

line_is : (a b d : Point) → is_on_line d (a, b) ≡ int_eq (side (a, b) d) (pos 0)
unfolding is_on_line
line_is a b d = refl

climbing_line : (a b : Point) (x y : ℤ) → int_le a.y y ≡ true → int_le b.y y ≡ false
    → int_eq (side (a, b) (at x y)) (pos 0) ≡ is_at x (crossing y (a, b))
unfolding side
climbing_line a b x y h k = rw h (is_zero ((b.x -ℤ a.x) *ℤ (y -ℤ a.y)) ((b.y -ℤ a.y) *ℤ (x -ℤ a.x))
    ∙ sym (at_by_height a.x (b.x -ℤ a.x) (y -ℤ a.y) (b.y -ℤ a.y) x (omega (arith, ints))))

falling_line : (a b : Point) (x y : ℤ) → int_le a.y y ≡ false → int_le b.y y ≡ true
    → int_eq (side (a, b) (at x y)) (pos 0) ≡ is_at x (crossing y (a, b))
falling_line a b x y h k = rw (h, side_turned a b (at x y))
    (is_zero_turned ((b.x -ℤ a.x) *ℤ (a.y -ℤ y)) ((a.y -ℤ b.y) *ℤ (x -ℤ a.x))
    ∙ sym (at_by_height a.x (b.x -ℤ a.x) (a.y -ℤ y) (a.y -ℤ b.y) x (omega (arith, ints))))

-- an edge that passes a height is met there exactly on its line
passing_edge : (d a b : Point) → (int_le a.y d.y ≡ int_le b.y d.y → false ≡ true)
    → is_on_edge d (a, b) ≡ int_eq (side (a, b) d) (pos 0)
passing_edge d a b ne = elim (cases_Bool (int_eq (side (a, b) d) (pos 0))) [
  | inl e ↦ on_edge_from_line d a b (let z : side (a, b) d ≡ pos 0 = grind (arith, ints) in z)
      (λ q. false≢true (ne q)) ∙ sym e
  | inr e ↦ rw (line_is a b d, e) refl
]

climbs : (p q : Bool) → ((p && not q) || (q && not p)) ≡ true → p ≡ true → q ≡ false
climbs true true e h = sym e
climbs p false e h = refl
climbs false true e h = sym h

falls : (p q : Bool) → ((p && not q) || (q && not p)) ≡ true → p ≡ false → q ≡ true
falls p true e h = refl
falls false false e h = e
falls true false e h = sym h

-- on which sides of the height y an edge that passes it begins and ends, from the heights a and b
pub climbing_heights : (a b y : ℤ)
    → ((int_le a y && not (int_le b y)) || (int_le b y && not (int_le a y))) ≡ true
    → int_le a y ≡ true → (a ≤ℤ y) × (y <ℤ b)
climbing_heights a b y e h = let k = climbs (int_le a y) (int_le b y) e h in
    (grind (arith, ints), grind (arith, ints))

pub falling_heights : (a b y : ℤ)
    → ((int_le a y && not (int_le b y)) || (int_le b y && not (int_le a y))) ≡ true
    → int_le a y ≡ false → (b ≤ℤ y) × (y <ℤ a)
falling_heights a b y e h = let k = falls (int_le a y) (int_le b y) e h in
    (grind (arith, ints), grind (arith, ints))

pub passing : (a b : Point) (x y : ℤ) → passes y (a, b) ≡ true
    → (crosses_left (at x y) (a, b) ≡ is_before x (crossing y (a, b)))
    × (is_on_edge (at x y) (a, b) ≡ is_at x (crossing y (a, b)))
passing a b x y h = elim (cases_Bool (int_le a.y y)) [
  | inl e ↦ let k = climbs (int_le a.y y) (int_le b.y y) h e in (
    climbing_crosses a b x y e k,
    passing_edge (at x y) a b (λ q. sym k ∙ (sym q ∙ e)) ∙ climbing_line a b x y e k,
  )
  | inr e ↦ let k = falls (int_le a.y y) (int_le b.y y) h e in (
    falling_crosses a b x y e k,
    passing_edge (at x y) a b (λ q. sym e ∙ (q ∙ k)) ∙ falling_line a b x y e k,
  )
]

apart_crosses : (a b : Point) (x y : ℤ) → int_le a.y y ≡ int_le b.y y
    → crosses_left (at x y) (a, b) ≡ false
apart_crosses a b x y e = rw e (none (int_le b.y y) _ _)
  where
    none : (c p q : Bool) → ((c && not c && p) || (c && not c && q)) ≡ false
    none true p q = refl
    none false p q = refl

-- an edge that begins at the height of d and lies in it
level_edge : (a b : Point) (x y : ℤ) → a.y ≡ y → b.y ≡ y
    → is_on_edge (at x y) (a, b) ≡ is_in_span x (span_between a.x b.x)
unfolding side is_between
level_edge a b x y e f =
    let line : int_eq (side (a, b) (at x y)) (pos 0) ≡ true =
    let v : y -ℤ a.y ≡ pos 0 = omega (arith, ints) in
    let w : b.y -ℤ a.y ≡ pos 0 = omega (arith, ints) in
    rw (v, w) (eq_test _ _ (ap (λ n. n -ℤ (pos 0 *ℤ (x -ℤ a.x))) (*ℤ-zero (b.x -ℤ a.x))
    ∙ ap (λ n. pos 0 -ℤ n) (zero-*ℤ (x -ℤ a.x)))) in
    let r : int_le a.y y ≡ true = le_yes a.y y (omega (arith, ints)) in
    let s : int_le y b.y ≡ true = le_yes y b.y (omega (arith, ints)) in
    rw (line_is a b (at x y), line, r, s) (row a.x x b.x)
  where
    row : (m n k : ℤ) → (((int_le m n && int_le n k) || (int_le k n && int_le n m)) && true)
        ≡ (int_le (int_min m k) n && int_le n (int_max m k))
    row m n k = by_lt_z m k (λ l. grind (arith, ints, clamps)) (λ l. grind (arith, ints, clamps))

zero_product : (w t : ℤ) → w *ℤ t ≡ pos 0 → (w ≡ pos 0) ⊎ (t ≡ pos 0)
zero_product (pos zero) t e = inl refl
zero_product (pos (suc m)) (pos zero) e = inr refl
zero_product (pos (suc m)) (pos (suc n)) e = let x = one_le_product (suc m) (suc n) (omega arith)
    (omega arith) in absurd (omega (arith, ints))
zero_product (pos (suc m)) (negsuc n) e = let x = one_le_product (suc m) (suc n) (omega arith)
    (omega arith) in absurd (omega (arith, ints))
zero_product (negsuc m) (pos zero) e = inr refl
zero_product (negsuc m) (pos (suc n)) e = let x = one_le_product (suc m) (suc n) (omega arith)
    (omega arith) in absurd (omega (arith, ints))
zero_product (negsuc m) (negsuc n) e = let x = one_le_product (suc m) (suc n) (omega arith)
    (omega arith) in absurd (omega (arith, ints))

-- with its start alone at a height, an edge is met there at its start
start_line : (u w t : ℤ) → (w ≡ pos 0 → false ≡ true)
    → int_eq (u *ℤ pos 0 -ℤ w *ℤ t) (pos 0) ≡ int_eq t (pos 0)
start_line u w t ne =
    is_zero (u *ℤ pos 0) (w *ℤ t)
    ∙ (ap (λ n. int_eq n (w *ℤ t)) (*ℤ-zero u)
    ∙ elim (cases_Bool (int_eq t (pos 0))) [
      | inl e ↦ let z : t ≡ pos 0 = grind (arith, ints) in
          eq_test (pos 0) (w *ℤ t) (sym (ap (λ n. w *ℤ n) z ∙ *ℤ-zero w)) ∙ sym e
      | inr e ↦ ne_test (pos 0) (w *ℤ t) (λ q. elim (zero_product w t (sym q)) [
        | inl z ↦ ne z
        | inr z ↦ sym e ∙ eq_test t (pos 0) z
      ]) ∙ sym e
    ])

-- with its end alone at a height that it climbs to, an edge is met there at its end
end_line : (u t : ℤ) (k : ℤ) → pos 0 <ℤ k → int_eq (u *ℤ k -ℤ k *ℤ t) (pos 0) ≡ int_eq u t
end_line u t (negsuc h) p = absurd (omega (arith, ints))
end_line u t (pos h) p =
    is_zero (u *ℤ pos h) (pos h *ℤ t)
    ∙ (ap (λ n. int_eq n (pos h *ℤ t)) (*ℤ_comm u (pos h))
    ∙ elim (cases_Bool (int_eq u t)) [
      | inl e ↦ let z : u ≡ t = grind (arith, ints) in eq_test _ _ (ap (λ n. pos h *ℤ n) z) ∙ sym e
      | inr e ↦ ne_test _ _ (λ q. sym e ∙ eq_test u t (sym (div_exact u h (omega (arith, ints)))
          ∙ (ap (λ n. int_div_euclid n (pos h)) q ∙ div_exact t h (omega (arith, ints))))) ∙ sym e
    ])

alone : (x m k : ℤ)
    → ((int_eq (x -ℤ m) (pos 0) && ((int_le m x && int_le x k) || (int_le k x && int_le x m)))
    && true) ≡ (int_le (int_min m m) x && int_le x (int_max m m))
alone x m k =
    by_lt_z x m
    (λ l. rw (less_ne (x -ℤ m) (pos 0) (omega (arith, ints))) (grind (arith, ints, clamps)))
    (λ l. by_lt_z m x
    (λ j. rw (more_ne (x -ℤ m) (pos 0) (omega (arith, ints))) (grind (arith, ints, clamps)))
    (λ j. let e : x ≡ m = omega (arith, ints) in
    rw (e, eq_test (m -ℤ m) (pos 0) (omega (arith, ints)), le_yes m m (omega (arith, ints)))
    (by_lt_z m k (λ i. grind (arith, ints, clamps)) (λ i. grind (arith, ints, clamps)))))

alone_end : (x m k : ℤ)
    → ((int_eq (k -ℤ m) (x -ℤ m) && ((int_le m x && int_le x k) || (int_le k x && int_le x m)))
    && true) ≡ (int_le (int_min k k) x && int_le x (int_max k k))
alone_end x m k =
    by_lt_z x k
    (λ l. rw (more_ne (k -ℤ m) (x -ℤ m) (omega (arith, ints))) (grind (arith, ints, clamps)))
    (λ l. by_lt_z k x
    (λ j. rw (less_ne (k -ℤ m) (x -ℤ m) (omega (arith, ints))) (grind (arith, ints, clamps)))
    (λ j. let e : x ≡ k = omega (arith, ints) in
    rw (e, eq_test (k -ℤ m) (k -ℤ m) refl, le_yes k k (omega (arith, ints)))
    (by_lt_z m k (λ i. grind (arith, ints, clamps)) (λ i. grind (arith, ints, clamps)))))

start_edge : (a b : Point) (x y : ℤ) → a.y ≡ y → b.y <ℤ y
    → is_on_edge (at x y) (a, b) ≡ is_in_span x (span_between a.x a.x)
unfolding side is_between
start_edge a b x y e f =
    let v : y -ℤ a.y ≡ pos 0 = omega (arith, ints) in
    let s : int_le b.y y ≡ true = le_yes b.y y (omega (arith, ints)) in
    let r : int_le y a.y ≡ true = le_yes y a.y (omega (arith, ints)) in
    let n : int_le y b.y ≡ false = le_no y b.y f in
    rw (
      line_is a b (at x y),
      v,
      start_line (b.x -ℤ a.x) (b.y -ℤ a.y) (x -ℤ a.x) (λ z. absurd (omega (arith, ints))),
      n,
      s,
      r,
      both (int_le a.y y),
    ) (alone x a.x b.x)
  where
    both : (c : Bool) → ((c && false) || true) ≡ true
    both true = refl
    both false = refl

end_edge : (a b : Point) (x y : ℤ) → a.y <ℤ y → b.y ≡ y
    → is_on_edge (at x y) (a, b) ≡ is_in_span x (span_between b.x b.x)
unfolding side is_between
end_edge a b x y f e =
    let w : b.y -ℤ a.y ≡ y -ℤ a.y = omega (arith, ints) in
    let s : int_le a.y y ≡ true = le_yes a.y y (omega (arith, ints)) in
    let r : int_le y b.y ≡ true = le_yes y b.y (omega (arith, ints)) in
    rw (
      line_is a b (at x y),
      w,
      end_line (b.x -ℤ a.x) (x -ℤ a.x) (y -ℤ a.y) (omega (arith, ints)),
      s,
      r,
    ) (alone_end x a.x b.x)

far_edge : (a b : Point) (x y : ℤ) → (a.y <ℤ y) × (b.y <ℤ y) ⊎ (y <ℤ a.y) × (y <ℤ b.y)
    → is_on_edge (at x y) (a, b) ≡ false
unfolding is_between
far_edge a b x y (inl h) = rw (le_no y a.y h.0, le_no y b.y h.1)
    (past (is_on_line (at x y) (a, b) && is_between a.x x b.x) (int_le a.y y) (int_le b.y y))
  where
    past : (c p q : Bool) → (c && ((p && false) || (q && false))) ≡ false
    past true true true = refl
    past true true false = refl
    past true false true = refl
    past true false false = refl
    past false p q = refl
far_edge a b x y (inr h) = rw (le_no a.y y h.0, le_no b.y y h.1)
    (and_none (is_on_line (at x y) (a, b) && is_between a.x x b.x))
  where
    and_none : (c : Bool) → (c && false) ≡ false
    and_none true = refl
    and_none false = refl

-- what an edge that does not pass a height has there
pub touching : (a b : Point) (x y : ℤ) → passes y (a, b) ≡ false
    → (crosses_left (at x y) (a, b) ≡ false)
    × (is_on_edge (at x y) (a, b) ≡ list_any (is_in_span x) (option_to_list (contact y (a, b))))
touching a b x y h = (apart_crosses a b x y same, on)
  where
    level : (p q : Bool) → ((p && not q) || (q && not p)) ≡ false → p ≡ q
    level true true e = refl
    level true false e = e
    level false true e = sym e
    level false false e = refl

    same : int_le a.y y ≡ int_le b.y y
    same = level (int_le a.y y) (int_le b.y y) h

    on : is_on_edge (at x y) (a, b) ≡ list_any (is_in_span x) (option_to_list (contact y (a, b)))
    on = by_lt_z a.y y
        (λ l. by_lt_z b.y y
        (λ k. rw (less_ne a.y y l, less_ne b.y y k) (far_edge a b x y (inl (l, k))))
        (λ k. let e : int_le b.y y ≡ true = sym same ∙ le_yes a.y y (omega (arith, ints)) in
        let f : b.y ≡ y = omega (arith, ints) in
        rw (less_ne a.y y l, eq_test b.y y f) (end_edge a b x y l f ∙ sym (or_false _))))
        (λ l. by_lt_z y a.y
        (λ k. let e : int_le b.y y ≡ false = sym same ∙ le_no a.y y k in
        let f : y <ℤ b.y = grind (arith, ints) in
        rw (more_ne a.y y k, more_ne b.y y f) (far_edge a b x y (inr (k, f))))
        (λ k.
        let f : a.y ≡ y = omega (arith, ints) in
        let e : int_le b.y y ≡ true = sym same ∙ le_yes a.y y (omega (arith, ints)) in
        by_lt_z b.y y
        (λ j. rw (eq_test a.y y f, less_ne b.y y j) (start_edge a b x y f j ∙ sym (or_false _)))
        (λ j. let g : b.y ≡ y = omega (arith, ints) in
        rw (eq_test a.y y f, eq_test b.y y g) (level_edge a b x y f g ∙ sym (or_false _)))))
