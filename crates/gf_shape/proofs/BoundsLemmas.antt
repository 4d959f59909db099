-- What a polygon holds lies between the least and the greatest of its points.
use Rattle.std.specs.Prelude.{◌≡◌, ℕ, zero, suc, ◌<◌, ◌≤◌, length, take, drop, Bool, true, false}
use Rattle.std.specs.Prelude.{cond, List, [], ◌∷◌, ◌++◌, zip, count_by, All, Contains}
use Rattle.std.specs.Prelude.{slice_index_or, ℤ, pos, ◌≤ℤ◌, ◌<ℤ◌, int_le, int_lt, refl}
use Rattle.std.specs.List.{list_any}
use Rattle.std.proofs.Common.{arith, sym, ◌∙◌}
use Rattle.std.proofs.Math.IntN.{*ℤ-zero}
use Rattle.std.proofs.lemmas.Bool.{and_left, and_right, and_from, or_from, or_left, or_right}
use Rattle.std.proofs.lemmas.Bool.{false≢true}
use Rattle.std.proofs.lemmas.Int.{ints, by_lt_z}
use Rattle.std.proofs.lemmas.List.{length-append, length-drop, length-take}
use Rattle.std.proofs.lemmas.List.Elements.{All-head, All-tail, All-append, All-drop, All-take}
use Rattle.std.proofs.lemmas.List.Elements.{All-weaker}
use Rattle.std.proofs.lemmas.List.Sums.{sum_by-cons}
use Rattle.gf_plane.specs.declared.point.Point.{Point}
use Rattle.gf_shape.specs.Edges.{Edge, side, is_between, is_on_edge, crosses_left, crosses_right}
use Rattle.gf_shape.specs.FigureMeaning.{chain_holds}
use Rattle.gf_shape.specs.ShapeMeaning.{polygon_holds}
use Rattle.gf_shape.specs.Laws.Sides.{is_on_line-from, side-right_up, side-right_down, side-left_up}
use Rattle.gf_shape.specs.Laws.Sides.{side-left_down}
use Rattle.gf_shape.specs.Laws.Moved.{gap_same}
use Rattle.gf_shape.specs.Laws.Parity.{crosses, polygon_holds_as_chain}

pub not_lt : (a b : ℤ) → b <ℤ a → int_lt a b ≡ false
not_lt a b h = grind (arith, ints)

crosses_none : (low high strict back : Bool) → (low ≡ true → high ≡ false → strict ≡ false)
    → (high ≡ true → low ≡ false → back ≡ false) → crosses low high strict back ≡ false
crosses_none true true s b f g = refl
crosses_none false false s b f g = refl
crosses_none true false s b f g = rw (f refl refl)
crosses_none false true s b f g = rw (g refl refl)

crosses_right-right_of : (d a b : Point) → a.x <ℤ d.x → b.x <ℤ d.x → crosses_right d (a, b) ≡ false
crosses_right-right_of d a b p q =
    crosses_none (int_le a.y d.y) (int_le b.y d.y) (int_lt (pos 0) (side (a, b) d))
    (int_lt (side (a, b) d) (pos 0))
    (λ h l. not_lt (pos 0) (side (a, b) d) (side-right_up a b d p q (omega (arith, ints))
    (omega (arith, ints))))
    (λ h l. not_lt (side (a, b) d) (pos 0) (side-right_down a b d p q (omega (arith, ints))
    (omega (arith, ints))))

crosses_left-left_of : (d a b : Point) → d.x <ℤ a.x → d.x <ℤ b.x → crosses_left d (a, b) ≡ false
crosses_left-left_of d a b p q =
    crosses_none (int_le a.y d.y) (int_le b.y d.y) (int_lt (side (a, b) d) (pos 0))
    (int_lt (pos 0) (side (a, b) d))
    (λ h l. not_lt (side (a, b) d) (pos 0) (side-left_up a b d p q (omega (arith, ints))
    (omega (arith, ints))))
    (λ h l. not_lt (pos 0) (side (a, b) d) (side-left_down a b d p q (omega (arith, ints))
    (omega (arith, ints))))

crosses_right-above : (d a b : Point) → d.y <ℤ a.y → d.y <ℤ b.y → crosses_right d (a, b) ≡ false
crosses_right-above d a b p q =
    crosses_none (int_le a.y d.y) (int_le b.y d.y) (int_lt (pos 0) (side (a, b) d))
    (int_lt (side (a, b) d) (pos 0)) (λ h l. absurd (omega (arith, ints)))
    (λ h l. absurd (omega (arith, ints)))

crosses_right-below : (d a b : Point) → a.y <ℤ d.y → b.y <ℤ d.y → crosses_right d (a, b) ≡ false
crosses_right-below d a b p q =
    crosses_none (int_le a.y d.y) (int_le b.y d.y) (int_lt (pos 0) (side (a, b) d))
    (int_lt (side (a, b) d) (pos 0)) (λ h l. absurd (omega (arith, ints)))
    (λ h l. absurd (omega (arith, ints)))

pub is_between-before : (a m b : ℤ) → m <ℤ a → m <ℤ b → is_between a m b ≡ false
unfolding is_between
is_between-before a m b p q = grind (arith, ints)

pub is_between-past : (a m b : ℤ) → a <ℤ m → b <ℤ m → is_between a m b ≡ false
unfolding is_between
is_between-past a m b p q = grind (arith, ints)

-- a test that fails at each edge between points of P fails at each edge of a row of them
module _ (P : Point → Type 0) (t : Edge → Bool) (fails : (a b : Point) → P a → P b
    → t (a, b) ≡ false) where
  list_any-none : (ps qs : List Point) → All P ps → All P qs → list_any t (zip ps qs) ≡ false
  list_any-none [] qs h l = refl
  list_any-none (p ∷ ps) [] h l = refl
  list_any-none (p ∷ ps) (q ∷ qs) h l =
      or_from _ _ (fails p q (All-head P p ps h) (All-head P q qs l))
      (list_any-none ps qs (All-tail P p ps h) (All-tail P q qs l))

  count_by-none : (ps qs : List Point) → All P ps → All P qs → count_by t (zip ps qs) ≡ 0
  count_by-none [] qs h l = refl
  count_by-none (p ∷ ps) [] h l = refl
  count_by-none (p ∷ ps) (q ∷ qs) h l =
      sum_by-cons (λ e. cond (t e) 1 0) (p, q) (zip ps qs)
      ∙ rw (
        fails p q (All-head P p ps h) (All-head P q qs l),
        count_by-none ps qs (All-tail P p ps h) (All-tail P q qs l),
      )

polygon_none : (P : Point → Type 0) (d : Point)
    → ((a b : Point) → P a → P b → is_on_edge d (a, b) ≡ false)
    → ((a b : Point) → P a → P b → crosses_right d (a, b) ≡ false) → (ps : List Point) → All P ps
    → polygon_holds ps d ≡ false
polygon_none P d on across ps h =
    let next = All-append P (drop 1 ps) (take 1 ps) (All-drop P 1 ps h) (All-take P 1 ps h) in
    rw (
      list_any-none P (is_on_edge d) on ps (drop 1 ps ++ take 1 ps) h next,
      count_by-none P (crosses_right d) across ps (drop 1 ps ++ take 1 ps) h next,
    )

chain_none : (P : Point → Type 0) (d : Point)
    → ((a b : Point) → P a → P b → is_on_edge d (a, b) ≡ false)
    → ((a b : Point) → P a → P b → crosses_left d (a, b) ≡ false) → (ps : List Point) → All P ps
    → chain_holds ps d ≡ false
chain_none P d on across ps h =
    let next = All-drop P 1 ps h in
    rw (
      list_any-none P (is_on_edge d) on ps (drop 1 ps) h next,
      count_by-none P (crosses_left d) across ps (drop 1 ps) h next,
    )

polygon_none-left : (d : Point) (ps : List Point) → All (λ q. d.x <ℤ q.x) ps
    → polygon_holds ps d ≡ false
polygon_none-left d [] h = refl
polygon_none-left d (a ∷ ps) h =
    let Left : Point → Type 0 = λ q. d.x <ℤ q.x in
    polygon_holds_as_chain (a ∷ ps) d
    ∙ chain_none Left d (λ p q k l. and_left _ _
    (and_right _ _ (is_between-before p.x d.x q.x k l))) (crosses_left-left_of d)
    ((a ∷ ps) ++ a ∷ []) (All-append Left (a ∷ ps) (a ∷ []) h (All-take Left 1 (a ∷ ps) h))

polygon_none-right : (d : Point) (ps : List Point) → All (λ q. q.x <ℤ d.x) ps
    → polygon_holds ps d ≡ false
polygon_none-right d = polygon_none (λ q. q.x <ℤ d.x) d
    (λ p q k l. and_left _ _ (and_right _ _ (is_between-past p.x d.x q.x k l)))
    (crosses_right-right_of d)

polygon_none-above : (d : Point) (ps : List Point) → All (λ q. d.y <ℤ q.y) ps
    → polygon_holds ps d ≡ false
polygon_none-above d = polygon_none (λ q. d.y <ℤ q.y) d
    (λ p q k l. and_right _ _ (is_between-before p.y d.y q.y k l)) (crosses_right-above d)

polygon_none-below : (d : Point) (ps : List Point) → All (λ q. q.y <ℤ d.y) ps
    → polygon_holds ps d ≡ false
polygon_none-below d = polygon_none (λ q. q.y <ℤ d.y) d
    (λ p q k l. and_right _ _ (is_between-past p.y d.y q.y k l)) (crosses_right-below d)

-- what is held is on no side past a bound of the points
pub polygon_holds-left : (l : ℤ) (ps : List Point) (d : Point) → All (λ q. l ≤ℤ q.x) ps
    → polygon_holds ps d ≡ true → l ≤ℤ d.x
polygon_holds-left l ps d h e =
    by_lt_z d.x l (λ past. absurd (false≢true
    (sym (polygon_none-left d ps (All-weaker (λ q. l ≤ℤ q.x) (λ q. d.x <ℤ q.x)
    (λ q k. omega (arith, ints)) ps h)) ∙ e))) (λ k. k)

pub polygon_holds-right : (r : ℤ) (ps : List Point) (d : Point) → All (λ q. q.x ≤ℤ r) ps
    → polygon_holds ps d ≡ true → d.x ≤ℤ r
polygon_holds-right r ps d h e =
    by_lt_z r d.x (λ past. absurd (false≢true
    (sym (polygon_none-right d ps (All-weaker (λ q. q.x ≤ℤ r) (λ q. q.x <ℤ d.x)
    (λ q k. omega (arith, ints)) ps h)) ∙ e))) (λ k. k)

pub polygon_holds-top : (t : ℤ) (ps : List Point) (d : Point) → All (λ q. t ≤ℤ q.y) ps
    → polygon_holds ps d ≡ true → t ≤ℤ d.y
polygon_holds-top t ps d h e =
    by_lt_z d.y t (λ past. absurd (false≢true
    (sym (polygon_none-above d ps (All-weaker (λ q. t ≤ℤ q.y) (λ q. d.y <ℤ q.y)
    (λ q k. omega (arith, ints)) ps h)) ∙ e))) (λ k. k)

pub polygon_holds-bottom : (b : ℤ) (ps : List Point) (d : Point) → All (λ q. q.y ≤ℤ b) ps
    → polygon_holds ps d ≡ true → d.y ≤ℤ b
polygon_holds-bottom b ps d h e =
    by_lt_z b d.y (λ past. absurd (false≢true
    (sym (polygon_none-below d ps (All-weaker (λ q. q.y ≤ℤ b) (λ q. q.y <ℤ d.y)
    (λ q k. omega (arith, ints)) ps h)) ∙ e))) (λ k. k)

-- each point of a polygon is held: it is on the edge that it begins
side-start : (q b : Point) → side (q, b) q ≡ pos 0
unfolding side
side-start q b = simp (gap_same, *ℤ-zero)

is_between-start : (a b : ℤ) → is_between a a b ≡ true
unfolding is_between
is_between-start a b = grind (arith, ints)

is_on_edge-start : (q b : Point) → is_on_edge q (q, b) ≡ true
is_on_edge-start q b = and_from _ _ (and_from _ _ (is_on_line-from q q b (side-start q b))
    (is_between-start q.x b.x)) (is_between-start q.y b.y)

list_any-start : (q : Point) (t : Edge → Bool) → ((b : Point) → t (q, b) ≡ true)
    → (ps qs : List Point) (k : ℕ) → k < length ps → slice_index_or ps k q ≡ q
    → length ps ≤ length qs → list_any t (zip ps qs) ≡ true
list_any-start q t starts [] qs k h e l = absurd (omega arith)
list_any-start q t starts (p ∷ ps) [] k h e l = absurd (omega arith)
list_any-start q t starts (p ∷ ps) (b ∷ qs) zero h e l = or_left (t (p, b)) _ (rw e (starts b))
list_any-start q t starts (p ∷ ps) (b ∷ qs) (suc k) h e l = or_right (t (p, b)) _
    (list_any-start q t starts ps qs k (omega arith) e (omega arith))

pub polygon_holds-point : (ps : List Point) (q : Point) → Contains ps q → polygon_holds ps q ≡ true
polygon_holds-point ps q (k, h, e) =
    or_left _ _ (list_any-start q (is_on_edge q) (is_on_edge-start q) ps (drop 1 ps ++ take 1 ps) k
    h e (simp (length-append, length-drop, length-take) (omega arith)))
