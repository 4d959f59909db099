-- What edges enclose lies between the leftmost of their points and the rightmost.
use Rattle.std.specs.Prelude.{ℕ, ◌≡◌, ◌≤ℤ◌, ◌<ℤ◌, ◌+◌, ◌<◌, ◌%◌, nat_eq, ℤ, pos, Bool, true, false}
use Rattle.std.specs.Prelude.{not, cond, ◌&&◌, ◌||◌, int_le, int_lt, List, [], ◌∷◌, count_by}
use Rattle.std.specs.Prelude.{length, take, refl, All}
use Rattle.std.specs.List.{list_any}
use Rattle.std.proofs.Common.{arith, sym, inl, inr, get_or, ◌∙◌}
use Rattle.std.proofs.lemmas.Bool.{cases_Bool}
use Rattle.std.proofs.lemmas.Int.{ints, by_lt_z}
use Rattle.std.proofs.lemmas.List.{length-append}
use Rattle.std.proofs.lemmas.List.Elements.{All-head, All-more, All-tail, All-weaker}
use Rattle.std.proofs.lemmas.List.Sums.{sum_by-append}
use Rattle.gf_spans.specs.declared.crossing.Crossing.{Crossing}
use Rattle.gf_spans.specs.declared.span.Span.{Span}
use Rattle.gf_spans.specs.Crossings.{is_at, is_before}
use Rattle.gf_spans.specs.Spans.{is_in_span}
use Rattle.gf_spans.specs.Joining.{is_enclosed}
use Rattle.gf_spans.proofs.PairLemmas.{any_append}
use Rattle.gf_plane.specs.declared.point.Point.{Point}
use Rattle.gf_shape.specs.Edges.{side, is_between, is_on_edge, is_on_line, crosses_left}
use Rattle.gf_shape.specs.Laws.Sides.{side-right_up, side-right_down, side-left_up, side-left_down}
use Rattle.gf_shape.specs.RowParts.{contacts_of, crossing, crossings_of, passes}
use Rattle.gf_shape.proofs.RowEdges.{at, passing, touching}
use Rattle.gf_shape.proofs.BoundsLemmas.{is_between-before, is_between-past, not_lt}
use Rattle.gf_scanline.specs.declared.edge.Edge.{Edge}
use Rattle.gf_scanline.specs.Reaching.{IsAcross}
use Rattle.gf_scanline.specs.Telling.{TellsRow, contacts_at, crossings_at}

-- an edge meets a row nowhere at x, and its crossings there lie before x, or don't
record Misses (before : Bool) (x : ℤ) (ks : List Crossing) (ss : List Span) : Type 0 where
  at : list_any (is_at x) ks ≡ false
  in_it : list_any (is_in_span x) ss ≡ false
  count : count_by (is_before x) ks ≡ cond before (length ks) 0

off_edge : (x y : ℤ) (a b : Point) → is_between a.x x b.x ≡ false
    → is_on_edge (at x y) (a, b) ≡ false
off_edge x y a b e = rw e (none (is_on_line (at x y) (a, b)) (is_between a.y y b.y))
  where
    none : (p q : Bool) → (p && false && q) ≡ false
    none true q = refl
    none false q = refl

-- one edge, over what is known of its passing
missed : (before : Bool) (x y : ℤ) (a b : Point) → is_between a.x x b.x ≡ false
    → (passes y (a, b) ≡ true → crosses_left (at x y) (a, b) ≡ before)
    → Misses before x (crossings_of y (a, b)) (contacts_of y (a, b))
missed before x y a b off away = elim (cases_Bool (passes y (a, b))) [
  | inl e ↦
      let p = passing a b x y e in
      let at_it : is_at x (crossing y (a, b)) ≡ false = sym p.1 ∙ off_edge x y a b off in
      let first : is_before x (crossing y (a, b)) ≡ before = sym p.0 ∙ away e in
      record { at = rw (e, at_it) refl; in_it = rw e refl; count = rw (e, first) (one before) }
  | inr e ↦
      let t = touching a b x y e in
      record {
        at = rw e refl;
        in_it = rw e (sym t.1 ∙ off_edge x y a b off);
        count = rw e (none before 0);
      }
]
  where
    one : (b : Bool) → (0 + cond b 1 0) ≡ cond b 1 0
    one true = refl
    one false = refl

    none : (b : Bool) (n : ℕ) → n ≡ cond b n n
    none true n = refl
    none false n = refl

neither : (p q s t : Bool) → (p ≡ true → q ≡ false → s ≡ false) → (q ≡ true → p ≡ false → t ≡ false)
    → (((p && not q) && s) || ((q && not p) && t)) ≡ false
neither true true s t f g = refl
neither false false s t f g = refl
neither true false s t f g = rw (f refl refl) refl
neither false true s t f g = g refl refl

either : (p q s t : Bool) → ((p && not q) || (q && not p)) ≡ true
    → (p ≡ true → q ≡ false → s ≡ true) → (q ≡ true → p ≡ false → t ≡ true)
    → (((p && not q) && s) || ((q && not p) && t)) ≡ true
either true true s t e f g = e
either false false s t e f g = e
either true false s t e f g = rw (f refl refl) refl
either false true s t e f g = g refl refl

lt_yes : (m n : ℤ) → m <ℤ n → int_lt m n ≡ true
lt_yes m n l = grind (arith, ints)

left_of : (x y : ℤ) (a b : Point) → x <ℤ a.x → x <ℤ b.x → crosses_left (at x y) (a, b) ≡ false
left_of x y a b p q =
    let d = at x y in
    neither (int_le a.y y) (int_le b.y y) (int_lt (side (a, b) d) (pos 0))
    (int_lt (pos 0) (side (a, b) d))
    (λ h l. not_lt (side (a, b) d) (pos 0) (side-left_up a b d p q (omega (arith, ints))
    (omega (arith, ints))))
    (λ h l. not_lt (pos 0) (side (a, b) d) (side-left_down a b d p q (omega (arith, ints))
    (omega (arith, ints))))

right_of : (x y : ℤ) (a b : Point) → a.x <ℤ x → b.x <ℤ x → passes y (a, b) ≡ true
    → crosses_left (at x y) (a, b) ≡ true
right_of x y a b p q e =
    let d = at x y in
    either (int_le a.y y) (int_le b.y y) (int_lt (side (a, b) d) (pos 0))
    (int_lt (pos 0) (side (a, b) d)) e
    (λ h l. lt_yes (side (a, b) d) (pos 0) (side-right_up a b d p q (omega (arith, ints))
    (omega (arith, ints))))
    (λ h l. lt_yes (pos 0) (side (a, b) d) (side-right_down a b d p q (omega (arith, ints))
    (omega (arith, ints))))

-- several edges
module _ (before : Bool) (x y : ℤ) (P : Edge → Type 0) (one : (e : Edge) → P e
    → Misses before x (crossings_of y (e.from, e.to)) (contacts_of y (e.from, e.to))) where
  all_missed : (es : List Edge) → All P es → Misses before x (crossings_at y es) (contacts_at y es)
  all_missed [] h = record { at = refl; in_it = refl; count = none before 0 }
    where
      none : (b : Bool) (n : ℕ) → n ≡ cond b n n
      none true n = refl
      none false n = refl
  all_missed (e ∷ es) h =
      let first = one e (All-head P e es h) in
      let rest = all_missed es (All-tail P e es h) in
      let ks = crossings_of y (e.from, e.to) in
      let ls = crossings_at y es in
      record {
        at = any_append (is_at x) ks ls ∙ rw (first.at, rest.at) refl;
        in_it = any_append (is_in_span x) (contacts_of y (e.from, e.to)) (contacts_at y es)
            ∙ rw (first.in_it, rest.in_it) refl;
        count = sum_by-append (λ k. cond (is_before x k) 1 0) ks ls
            ∙ rw (first.count, rest.count, length-append ks ls)
            (both before (length ks) (length ls));
      }
    where
      both : (b : Bool) (m n : ℕ) → cond b m 0 + cond b n 0 ≡ cond b (m + n) 0
      both true m n = refl
      both false m n = refl

-- evenly many crossings, none of them at x and all on one side of it, do not enclose it
not_enclosed : (before : Bool) (x : ℤ) (ks : List Crossing) (ss : List Span) → Misses before x ks ss
    → length ks % 2 ≡ 0 → is_enclosed ks ss x ≡ false
not_enclosed before x ks ss h e = rw (h.at, h.in_it, h.count) (even before (length ks) e)
  where
    even : (b : Bool) (n : ℕ) → n % 2 ≡ 0 → nat_eq (cond b n 0 % 2) 1 ≡ false
    even true n e = rw e refl
    even false n e = refl

true_not_false : true ≡ false → ⊥
true_not_false e = grind arith

-- what they tell a row of lies within what they reach
pub within_reach : (s : Span) (es : List Edge) → All (IsAcross s) es
    → (holds : Point → Bool) (x y : ℤ) → TellsRow holds y es
    → holds (record { x = x; y = y }) ≡ true → is_in_span x s ≡ true
within_reach s es h holds x y tells held =
    by_lt_z x s.first (λ l. outside false left l)
    (λ from. by_lt_z s.last x (λ l. outside true right l) (λ upto. both from upto))
  where
    left : x <ℤ s.first → (e : Edge) → IsAcross s e → Misses false x (crossings_of y (e.from, e.to))
        (contacts_of y (e.from, e.to))
    left l e h = missed false x y e.from e.to
        (is_between-before e.from.x x e.to.x (omega (arith, ints)) (omega (arith, ints)))
        (λ p. left_of x y e.from e.to (omega (arith, ints)) (omega (arith, ints)))

    right : s.last <ℤ x → (e : Edge) → IsAcross s e → Misses true x (crossings_of y (e.from, e.to))
        (contacts_of y (e.from, e.to))
    right l e h = missed true x y e.from e.to
        (is_between-past e.from.x x e.to.x (omega (arith, ints)) (omega (arith, ints)))
        (λ p. right_of x y e.from e.to (omega (arith, ints)) (omega (arith, ints)) p)

    outside : {C : Type 0} (before : Bool)
        → (C → (e : Edge) → IsAcross s e → Misses before x (crossings_of y (e.from, e.to))
        (contacts_of y (e.from, e.to))) → C → is_in_span x s ≡ true
    outside before one l = absurd (true_not_false
        (sym held ∙ (sym (tells.exact x) ∙ not_enclosed before x (crossings_at y es)
        (contacts_at y es) (all_missed before x y (IsAcross s) (one l) es h) tells.even)))

    both : s.first ≤ℤ x → x ≤ℤ s.last → is_in_span x s ≡ true
    both l m = grind (arith, ints)

-- an edge more, within a wider span
pub across_more : (old new : Span) (es : List Edge) (i : ℕ) (d : Edge) → i < length es
    → (new.first ≤ℤ old.first) × (old.last ≤ℤ new.last) → IsAcross new (get_or es i d)
    → All (IsAcross old) (take i es) → All (IsAcross new) (take (i + 1) es)
across_more old new es i d l wider one h =
    All-more (IsAcross new) es i d l
    (All-weaker (IsAcross old) (IsAcross new)
    (λ e a. (omega (arith, ints), omega (arith, ints), omega (arith, ints), omega (arith, ints)))
    (take i es) h) one
