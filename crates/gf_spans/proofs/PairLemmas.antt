-- Places that rise, taken in pairs: between two of a pair, or at one, is what is at one of them or
-- past an odd number.
use Rattle.std.specs.Prelude.{◌≡◌, ℕ, ◌+◌, ◌%◌, nat_eq, Bool, true, false, not, cond, ◌&&◌, ◌||◌}
use Rattle.std.specs.Prelude.{List, [], ◌∷◌, ◌++◌, length, count_by, Some, None, option_to_list, ℤ}
use Rattle.std.specs.Prelude.{pos, ◌+ℤ◌, ◌≤ℤ◌, ◌<ℤ◌, int_le, int_lt, refl, ◌<◌, ◌≤◌, drop, Option}
use Rattle.std.specs.List.{list_any}
use Rattle.std.specs.Ordering.{int_eq}
use Rattle.std.proofs.Common.{arith, ap, sym, ◌∙◌, get_or}
use Rattle.std.proofs.lemmas.Bool.Decides.{nat_tests}
use Rattle.std.proofs.lemmas.Int.{ints, by_lt_z}
use Rattle.std.proofs.lemmas.List.Sums.{sum_by-cons}
use Rattle.std.proofs.lemmas.List.{append-nil, at_drop_all, at_drop_more}
use Rattle.gf_spans.specs.declared.crossing.Crossing.{Crossing}
use Rattle.gf_spans.specs.declared.span.Span.{Span}
use Rattle.gf_spans.specs.Crossings.{is_at, is_before}
use Rattle.gf_spans.specs.JoiningParts.{start, spans_between, pairs_from}
use Rattle.gf_spans.specs.Spans.{is_in_span}

-- the places rise
abbrev pub Rises : List Crossing → Type 0
Rises [] = Unit {0}
Rises (k ∷ []) = Unit {0}
Rises (k ∷ l ∷ ks) = (k.floor ≤ℤ l.floor) × (start k ≤ℤ start l) × Rises (l ∷ ks)

-- x lies between the first place and the second, the third and the fourth, and so on, or at one of
-- them
abbrev pub is_in_pairs : ℤ → List Crossing → Bool
is_in_pairs x [] = false
is_in_pairs x (k ∷ []) = false
is_in_pairs x (k ∷ l ∷ ks) = (int_le (start k) x && int_le x l.floor) || is_in_pairs x ks

abbrev pub is_one : ℤ → List Crossing → Bool
is_one x ks = list_any (is_at x) ks

abbrev pub count_before : ℤ → List Crossing → ℕ
count_before x ks = count_by (is_before x) ks

pub count_before-cons : (x : ℤ) (k : Crossing) (ks : List Crossing)
    → count_before x (k ∷ ks) ≡ cond (int_lt k.floor x) 1 0 + count_before x ks
count_before-cons x k ks = sum_by-cons (λ l. cond (is_before x l) 1 0) k ks

start_high : (f : ℤ) (b : Bool) → cond b (f +ℤ pos 1) f ≤ℤ (f +ℤ pos 1)
start_high f true = omega (arith, ints)
start_high f false = omega (arith, ints)

not_at_before : (x f : ℤ) (b : Bool) → x <ℤ cond b (f +ℤ pos 1) f → (int_eq f x && not b) ≡ false
not_at_before x f true h = and_false (int_eq f x)
  where
    and_false : (c : Bool) → (c && false) ≡ false
    and_false true = refl
    and_false false = refl
not_at_before x f false h = let e : int_eq f x ≡ false = grind (arith, ints) in rw e refl

not_at_past : (x f : ℤ) (b : Bool) → f <ℤ x → (int_eq f x && not b) ≡ false
not_at_past x f b h = let e : int_eq f x ≡ false = grind (arith, ints) in rw e refl

at_start : (x f : ℤ) (b : Bool) → cond b (f +ℤ pos 1) f ≤ℤ x → x ≤ℤ f → (int_eq f x && not b) ≡ true
at_start x f true h k = absurd (omega (arith, ints))
at_start x f false h k = let e : int_eq f x ≡ true = grind (arith, ints) in rw e refl

none_before : (x : ℤ) (k : Crossing) (ks : List Crossing) → Rises (k ∷ ks) → x ≤ℤ k.floor
    → count_before x ks ≡ 0
none_before x k [] r h = refl
none_before x k (l ∷ ks) r h =
    let rest = none_before x l ks r.2 (omega (arith, ints)) in
    let here : int_lt l.floor x ≡ false = grind (arith, ints) in
    count_before-cons x l ks ∙ rw (here, rest) refl

two_zeros : (n : ℕ) → 0 + (0 + n) ≡ n
two_zeros n = omega arith

odd_more : (n : ℕ) → nat_eq ((1 + (1 + n)) % 2) 1 ≡ nat_eq (n % 2) 1
odd_more n = grind (arith, nat_tests)

pub pairs_hold : (x : ℤ) (ks : List Crossing) → Rises ks → length ks % 2 ≡ 0
    → is_in_pairs x ks ≡ (is_one x ks || nat_eq (count_before x ks % 2) 1)
pairs_hold x [] r e = refl
pairs_hold x (k ∷ []) r e = absurd (omega arith)
pairs_hold x (k ∷ l ∷ ks) r e =
    let again = pairs_hold x ks (rises_after l ks r.2) (omega arith) in
    by_lt_z x (start k)
    (λ before. before_both before r.1 again)
    (λ from. by_lt_z l.floor x (λ past. past_both past r.0 again) (λ upto. within from upto r))
  where
    rises_after : (l : Crossing) (ks : List Crossing) → Rises (l ∷ ks) → Rises ks
    rises_after l [] h = tt
    rises_after l (m ∷ ks) h = h.2

    before_both : x <ℤ start k → start k ≤ℤ start l
        → is_in_pairs x ks ≡ (is_one x ks || nat_eq (count_before x ks % 2) 1)
        → is_in_pairs x (k ∷ l ∷ ks) ≡ (is_one x (k ∷ l ∷ ks) || nat_eq
        (count_before x (k ∷ l ∷ ks) % 2) 1)
    before_both h up again =
        let near = start_high k.floor k.between in
        let near' = start_high l.floor l.between in
        let a : int_le (start k) x ≡ false = grind (arith, ints) in
        let b = not_at_before x k.floor k.between h in
        let c = not_at_before x l.floor l.between (omega (arith, ints)) in
        let d : int_lt k.floor x ≡ false = grind (arith, ints) in
        let f : int_lt l.floor x ≡ false = grind (arith, ints) in
        rw (
          count_before-cons x k (l ∷ ks),
          count_before-cons x l ks,
          a,
          b,
          c,
          d,
          f,
          two_zeros (count_before x ks),
        ) again

    past_both : l.floor <ℤ x → k.floor ≤ℤ l.floor
        → is_in_pairs x ks ≡ (is_one x ks || nat_eq (count_before x ks % 2) 1)
        → is_in_pairs x (k ∷ l ∷ ks) ≡ (is_one x (k ∷ l ∷ ks) || nat_eq
        (count_before x (k ∷ l ∷ ks) % 2) 1)
    past_both h up again =
        let near = start_high k.floor k.between in
        let a : int_le (start k) x ≡ true = grind (arith, ints) in
        let a' : int_le x l.floor ≡ false = grind (arith, ints) in
        let b = not_at_past x k.floor k.between (omega (arith, ints)) in
        let c = not_at_past x l.floor l.between h in
        let d : int_lt k.floor x ≡ true = grind (arith, ints) in
        let f : int_lt l.floor x ≡ true = grind (arith, ints) in
        rw (
          count_before-cons x k (l ∷ ks),
          count_before-cons x l ks,
          a,
          a',
          b,
          c,
          d,
          f,
          odd_more (count_before x ks),
        ) again

    or_right_true : (b : Bool) → true ≡ (b || true)
    or_right_true true = refl
    or_right_true false = refl

    within : start k ≤ℤ x → x ≤ℤ l.floor → Rises (k ∷ l ∷ ks)
        → is_in_pairs x (k ∷ l ∷ ks) ≡ (is_one x (k ∷ l ∷ ks) || nat_eq
        (count_before x (k ∷ l ∷ ks) % 2) 1)
    within from upto r =
        let a : int_le (start k) x ≡ true = grind (arith, ints) in
        let a' : int_le x l.floor ≡ true = grind (arith, ints) in
        let f : int_lt l.floor x ≡ false = grind (arith, ints) in
        let rest = none_before x l ks r.2 upto in
        by_lt_z k.floor x
        (λ past.
        let d : int_lt k.floor x ≡ true = grind (arith, ints) in
        rw (count_before-cons x k (l ∷ ks), count_before-cons x l ks, a, a', d, f, rest)
        (or_right_true _))
        (λ at. let b = at_start x k.floor k.between from at in rw (a, a', b) refl)

or_assoc : (p q r : Bool) → ((p || q) || r) ≡ (p || (q || r))
or_assoc true q r = refl
or_assoc false q r = refl

pub any_append : {X : Type 0} (p : X → Bool) (xs ys : List X)
    → list_any p (xs ++ ys) ≡ (list_any p xs || list_any p ys)
any_append p [] ys = refl
any_append p (x ∷ xs) ys = ap (λ t. p x || t) (any_append p xs ys)
    ∙ sym (or_assoc (p x) (list_any p xs) (list_any p ys))

between_any : (x : ℤ) (k l : Crossing)
    → list_any (is_in_span x) (spans_between k l) ≡ (int_le (start k) x && int_le x l.floor)
between_any x k l = some (start k) l.floor
  where
    some : (m n : ℤ) → list_any (is_in_span x)
        (option_to_list (cond (int_le m n) (Some (record { first = m; last = n })) None)) ≡ (int_le
        m x && int_le x n)
    some m n = by_lt_z n m
        (λ none. let e : int_le m n ≡ false = grind (arith, ints) in
        let f : (int_le m x && int_le x n) ≡ false = grind (arith, ints) in rw (e, f) refl)
        (λ more. let e : int_le m n ≡ true = grind (arith, ints) in
        rw e (or_none (int_le m x && int_le x n)))
      where
        or_none : (b : Bool) → (b || false) ≡ b
        or_none true = refl
        or_none false = refl

-- what is in the spans of the pairs is in the pairs
pub pairs_any : (x : ℤ) (ks : List Crossing)
    → list_any (is_in_span x) (pairs_from None ks) ≡ is_in_pairs x ks
pairs_any x [] = refl
pairs_any x (k ∷ []) = refl
pairs_any x (k ∷ l ∷ ks) =
    any_append (is_in_span x) (spans_between k l) (pairs_from None ks)
    ∙ (ap (λ b. b || list_any (is_in_span x) (pairs_from None ks)) (between_any x k l)
    ∙ ap (λ b. (int_le (start k) x && int_le x l.floor) || b) (pairs_any x ks))

-- places paired one after the other, and all of them
pub paired_more : (old new whole : List Span) (before after : Option Crossing) (d : Crossing)
    (ks : List Crossing) (i : ℕ) → i < length ks
    → new ++ pairs_from after (drop (i + 1) ks) ≡ old ++ pairs_from before
    (get_or ks i d ∷ drop (i + 1) ks) → old ++ pairs_from before (drop i ks) ≡ whole
    → new ++ pairs_from after (drop (i + 1) ks) ≡ whole
paired_more old new whole before after d ks i l step is = step
    ∙ (sym (at_drop_more (λ ls. old ++ pairs_from before ls) ks i d l) ∙ is)

pub paired_all : (found whole : List Span) (before : Option Crossing) (ks : List Crossing) (i : ℕ)
    → length ks ≤ i → found ++ pairs_from before (drop i ks) ≡ whole → found ≡ whole
paired_all found whole before ks i l is = sym (append-nil found)
    ∙ (sym (at_drop_all (λ ls. found ++ pairs_from before ls) ks i l) ∙ is)
