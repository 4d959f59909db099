-- The row law of a closed chain, from the crossings and the contacts of its edges.
use Rattle.std.specs.Prelude.{drop, ◌<◌, ◌≤◌, ◌≡◌, ℕ, ◌+◌, ◌%◌, Bool, true, false, not, cond, ◌&&◌}
use Rattle.std.specs.Prelude.{◌||◌, List, [], ◌∷◌, ◌++◌, zip, length, count_by, Option, Some, None}
use Rattle.std.specs.Prelude.{ℤ, int_le, refl, option_to_list}
use Rattle.std.specs.List.{list_any}
use Rattle.std.specs.Ordering.{int_eq}
use Rattle.std.proofs.Common.{arith, ap, sym, inl, inr, get_or, ◌∙◌}
use Rattle.std.proofs.lemmas.Bool.{cases_Bool}
use Rattle.std.proofs.lemmas.Int.{ints, by_lt_z, clamps}
use Rattle.std.proofs.lemmas.List.{append-nil, append_assoc, at_drop_all, at_drop_more}
use Rattle.std.proofs.lemmas.List.Sums.{sum_by-cons, sum_by-append}
use Rattle.gf_spans.specs.declared.crossing.Crossing.{Crossing}
use Rattle.gf_spans.specs.declared.span.Span.{Span}
use Rattle.gf_spans.specs.Crossings.{is_at, is_before}
use Rattle.gf_spans.specs.Joining.{IsJoined}
use Rattle.gf_spans.specs.Spans.{is_empty, is_in_span}
use Rattle.gf_spans.proofs.PairLemmas.{is_one, count_before, any_append}
use Rattle.gf_plane.specs.declared.point.Point.{Point}
use Rattle.gf_shape.specs.Edges.{is_on_edge, crosses_left}
use Rattle.gf_shape.specs.FigureMeaning.{chain_holds}
use Rattle.gf_shape.specs.Rows.{IsRow}
use Rattle.gf_shape.specs.RowParts.{passes, crossing, crossings_along, crossings_of, contact}
use Rattle.gf_shape.specs.RowParts.{contacts_of, contacts_along, end_of, span_between}
use Rattle.gf_shape.proofs.RowEdges.{at, passing, touching}

abbrev bit : Bool → ℕ
bit b = cond b 1 0

count_crosses : (x y : ℤ) (e : Point × Point) (es : List (Point × Point))
    → count_by (crosses_left (at x y)) (e ∷ es) ≡ bit (crosses_left (at x y) e) + count_by
    (crosses_left (at x y)) es
count_crosses x y e es = sum_by-cons (λ f. cond (crosses_left (at x y) f) 1 0) e es

count_append : (x : ℤ) (ks ls : List Crossing)
    → count_before x (ks ++ ls) ≡ count_before x ks + count_before x ls
count_append x ks ls = sum_by-append (λ k. cond (is_before x k) 1 0) ks ls

edge_crosses : (x y : ℤ) (a b : Point) → bit (crosses_left (at x y) (a, b)) ≡ count_before x
    (crossings_of y (a, b))
edge_crosses x y a b = elim (cases_Bool (passes y (a, b))) [
  | inl e ↦ rw (e, (passing a b x y e).0) (one (is_before x (crossing y (a, b))))
  | inr e ↦ rw (e, (touching a b x y e).0) refl
]
  where
    one : (c : Bool) → bit c ≡ 0 + bit c
    one true = refl
    one false = refl

-- the edges of a path that cross the ray to the left are the crossings before it
pub path_crosses : (x y : ℤ) (a : Point) (ps : List Point)
    → count_by (crosses_left (at x y)) (zip (a ∷ ps) ps) ≡ count_before x (crossings_along y a ps)
path_crosses x y a [] = refl
path_crosses x y a (b ∷ ps) =
    count_crosses x y (a, b) (zip (b ∷ ps) ps)
    ∙ (ap (λ n. n + count_by (crosses_left (at x y)) (zip (b ∷ ps) ps)) (edge_crosses x y a b)
    ∙ (ap (λ n. count_before x (crossings_of y (a, b)) + n) (path_crosses x y b ps)
    ∙ sym (count_append x (crossings_of y (a, b)) (crossings_along y b ps))))

edge_on : (x y : ℤ) (a b : Point)
    → is_on_edge (at x y) (a, b) ≡ (is_one x (crossings_of y (a, b)) || list_any (is_in_span x)
    (contacts_of y (a, b)))
edge_on x y a b = elim (cases_Bool (passes y (a, b))) [
  | inl e ↦ (passing a b x y e).1 ∙ sym (rw e (one (is_at x (crossing y (a, b)))))
  | inr e ↦ (touching a b x y e).1 ∙ sym (rw e refl)
]
  where
    one : (c : Bool) → ((c || false) || false) ≡ c
    one true = refl
    one false = refl

mix : (p q r s : Bool) → ((p || q) || (r || s)) ≡ ((p || r) || (q || s))
mix true q r s = refl
mix false true true s = refl
mix false true false s = refl
mix false false r s = refl

-- a point of the path is at a crossing or in a contact
pub path_edges : (x y : ℤ) (a : Point) (ps : List Point)
    → list_any (is_on_edge (at x y)) (zip (a ∷ ps) ps) ≡ (is_one x (crossings_along y a ps) ||
    list_any (is_in_span x) (contacts_along y a ps))
path_edges x y a [] = refl
path_edges x y a (b ∷ ps) =
    rw (
      edge_on x y a b,
      path_edges x y b ps,
      any_append (is_at x) (crossings_of y (a, b)) (crossings_along y b ps),
      any_append (is_in_span x) (contacts_of y (a, b)) (contacts_along y b ps),
    )
    (mix (is_one x (crossings_of y (a, b))) (list_any (is_in_span x) (contacts_of y (a, b)))
    (is_one x (crossings_along y b ps)) (list_any (is_in_span x) (contacts_along y b ps)))

-- a path passes a height an odd number of times exactly if it begins on one side of it and ends on
-- the other
path_parity : (y : ℤ) (a : Point) (ps : List Point)
    → (length (crossings_along y a ps) + (bit (int_le a.y y) + bit (int_le (end_of a ps).y y))) %
    2 ≡ 0
path_parity y a [] = twice (int_le a.y y)
  where
    twice : (b : Bool) → (0 + (bit b + bit b)) % 2 ≡ 0
    twice true = refl
    twice false = refl
path_parity y a (b ∷ ps) = step (int_le a.y y) (int_le b.y y) (int_le (end_of b ps).y y)
    (crossing y (a, b)) (crossings_along y b ps) (path_parity y b ps)
  where
    step : (p q r : Bool) (k : Crossing) (ks : List Crossing)
        → (length ks + (bit q + bit r)) % 2 ≡ 0
        → (length (cond ((p && not q) || (q && not p)) (k ∷ []) [] ++ ks) + (bit p + bit r)) % 2 ≡ 0
    step true true r k ks h = h
    step false false r k ks h = h
    step true false r k ks h = omega arith
    step false true r k ks h = omega arith

pub closed_parity : (y : ℤ) (a : Point) (ps : List Point) → end_of a ps ≡ a
    → length (crossings_along y a ps) % 2 ≡ 0
closed_parity y a ps e =
    let h = path_parity y a ps in
    fewer (length (crossings_along y a ps)) (int_le a.y y) (rw e at h)
  where
    fewer : (n : ℕ) (b : Bool) → (n + (bit b + bit b)) % 2 ≡ 0 → n % 2 ≡ 0
    fewer n true h = omega arith
    fewer n false h = omega arith

full_between : (m n : ℤ) → is_empty (span_between m n) ≡ false
full_between m n = by_lt_z m n (λ l. grind (arith, ints, clamps)) (λ l. grind (arith, ints, clamps))

full_contact : (y : ℤ) (a b : Point) → list_any is_empty (option_to_list (contact y (a, b))) ≡ false
full_contact y a b = by_cases (int_eq a.y y) (int_eq b.y y)
  where
    one : {p : Bool} → p ≡ false → (p || false) ≡ false
    one {p} h = rw h refl

    by_cases : (p q : Bool) → list_any is_empty
        (option_to_list (cond (p && q) (Some (span_between a.x b.x))
        (cond p (Some (span_between a.x a.x)) (cond q (Some (span_between b.x b.x)) None)))) ≡ false
    by_cases true true = one (full_between a.x b.x)
    by_cases true false = one (full_between a.x a.x)
    by_cases false true = one (full_between b.x b.x)
    by_cases false false = refl

pub full_contacts_of : (y : ℤ) (a b : Point) → list_any is_empty (contacts_of y (a, b)) ≡ false
full_contacts_of y a b = elim (cases_Bool (passes y (a, b))) [
  | inl e ↦ rw e refl
  | inr e ↦ rw e (full_contact y a b)
]

-- no contact is empty
pub full_contacts : (y : ℤ) (a : Point) (ps : List Point)
    → list_any is_empty (contacts_along y a ps) ≡ false
full_contacts y a [] = refl
full_contacts y a (b ∷ ps) = any_append is_empty (contacts_of y (a, b)) (contacts_along y b ps)
    ∙ rw (full_contacts_of y a b, full_contacts y b ps) refl

-- one edge more of a walk that adds what each edge gives
pub gathers_more : {X : Type 0} (f : Point → List Point → List X) (g : Point → Point → List X)
    → ((a b : Point) (ps : List Point) → f a (b ∷ ps) ≡ g a b ++ f b ps)
    → (old new whole : List X) (a d : Point) (ps : List Point) (i : ℕ) → i < length ps
    → new ≡ old ++ g a (get_or ps i d) → old ++ f a (drop i ps) ≡ whole
    → new ++ f (get_or ps i d) (drop (i + 1) ps) ≡ whole
gathers_more f g one old new whole a d ps i h e is =
    ap (λ l. l ++ f (get_or ps i d) (drop (i + 1) ps)) e
    ∙ (append_assoc old (g a (get_or ps i d)) (f (get_or ps i d) (drop (i + 1) ps))
    ∙ (ap (λ l. old ++ l) (sym (one a (get_or ps i d) (drop (i + 1) ps)))
    ∙ (sym (at_drop_more (λ qs. old ++ f a qs) ps i d h) ∙ is)))

pub gathers_all : {X : Type 0} (f : Point → List Point → List X) → ((a : Point) → f a [] ≡ [])
    → (found whole : List X) (a : Point) (ps : List Point) (i : ℕ) → length ps ≤ i
    → found ++ f a (drop i ps) ≡ whole → found ≡ whole
gathers_all f none found whole a ps i l is =
    sym (append-nil found)
    ∙ (ap (λ l. found ++ l) (sym (none a))
    ∙ (sym (at_drop_all (λ qs. found ++ f a qs) ps i l) ∙ is))

-- what an edge adds to the meetings, by whether it passes the height
pub adds_crossing : (ks : List Crossing) (ss : List Span) (y : ℤ) (a b : Point)
    → passes y (a, b) ≡ true → (ks ++ crossing y (a, b) ∷ [] ≡ ks ++ crossings_of y (a, b))
    × (ss ≡ ss ++ contacts_of y (a, b))
adds_crossing ks ss y a b e = (rw e refl, rw e (sym (append-nil ss)))

pub adds_contact : (ks : List Crossing) (ss : List Span) (y : ℤ) (a b : Point) (found : Option Span)
    → passes y (a, b) ≡ false → found ≡ contact y (a, b) → (ks ≡ ks ++ crossings_of y (a, b))
    × (ss ++ option_to_list found ≡ ss ++ contacts_of y (a, b))
adds_contact ks ss y a b found e is = (rw e (sym (append-nil ks)), rw (e, is) refl)

pub path_row : (a : Point) (ps : List Point) (y : ℤ) (ss : List Span)
    → IsJoined (crossings_along y a ps) (contacts_along y a ps) ss
    → IsRow (chain_holds (a ∷ ps)) y ss
path_row a ps y ss h = record {
  exact = λ x. h.exact x ∙ sym (rw (path_edges x y a ps, path_crosses x y a ps) refl);
  apart = h.apart;
}
