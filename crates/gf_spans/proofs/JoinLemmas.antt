-- What crossings and contacts enclose, from the sorts of both and the spans between the crossings.
use Rattle.std.specs.Prelude.{◌≡◌, ℕ, ◌+◌, ◌%◌, nat_eq, Bool, true, false, cond, ◌||◌, List, []}
use Rattle.std.specs.Prelude.{◌∷◌, ◌++◌, length, Some, None, option_to_list, IsPermutation}
use Rattle.std.specs.Prelude.{IsSorted, ℤ, pos, ◌+ℤ◌, ◌≤ℤ◌, int_le, int_lt, refl}
use Rattle.std.specs.List.{list_any}
use Rattle.std.specs.Ordering.{bool_cmp, int_cmp, ordering_then, is_lt}
use Rattle.std.specs.declared.cmp.Ordering.{Ordering}
use Rattle.std.proofs.Common.{arith, ap, sym, get_or, add-one, ◌∙◌}
use Rattle.std.proofs.lemmas.Bool.{or_parts}
use Rattle.std.proofs.lemmas.Int.{ints, by_lt_z}
use Rattle.std.proofs.lemmas.List.Sorted.{list_any-IsPermutation, sum_by-IsPermutation}
use Rattle.std.proofs.lemmas.List.Sorted.{length_permutation}
use Rattle.gf_spans.specs.declared.crossing.Crossing.{Crossing}
use Rattle.gf_spans.specs.declared.span.Span.{Span}
use Rattle.gf_spans.specs.Crossings.{is_at, is_before}
use Rattle.gf_spans.specs.Joining.{is_enclosed, IsJoined}
use Rattle.gf_spans.specs.JoiningParts.{merged_all, pairs_from, spans_between, start}
use Rattle.gf_spans.specs.Spans.{is_empty, is_in_span, AreApart}
use Rattle.gf_spans.proofs.PairLemmas.{Rises, is_one, count_before, any_append, pairs_hold}
use Rattle.gf_spans.proofs.PairLemmas.{pairs_any}
use Rattle.gf_spans.proofs.MergeLemmas.{BeginFrom, merged_hold, merged_apart}

abbrev pub span_cmp : Span → Span → Ordering
span_cmp s t = ordering_then (int_cmp s.first t.first) (int_cmp s.last t.last)

abbrev pub place_cmp : Crossing → Crossing → Ordering
place_cmp k l = ordering_then (int_cmp k.floor l.floor) (bool_cmp k.between l.between)

at_more : {X : Type 0} (x : X) (xs : List X) (n : ℕ) (d : X)
    → get_or (x ∷ xs) (n + 1) d ≡ get_or xs n d
at_more x xs n d = rw (add-one n) refl

sorted_tail : {X : Type 0} (cmp : X → X → Ordering) (x : X) (xs : List X) → IsSorted cmp (x ∷ xs)
    → IsSorted cmp xs
sorted_tail cmp x xs h = λ k d low high. let here = h (k + 1) d (omega arith) (omega arith) in
    rw (at_more x xs (k + 1) d, at_more x xs k d) at here

no_less : (m n : ℤ) (o : Ordering) → is_lt (ordering_then (int_cmp n m) o) ≡ false → m ≤ℤ n
no_less m n o h = by_lt_z n m (λ l. let e : is_lt (int_cmp n m) ≡ true = grind (arith, ints) in
    absurd (grind arith)) (λ l. l)

-- a place that is not before another one starts no earlier
no_less_start : (m n : ℤ) (b c : Bool) → is_lt (ordering_then (int_cmp n m) (bool_cmp c b)) ≡ false
    → cond b (m +ℤ pos 1) m ≤ℤ cond c (n +ℤ pos 1) n
no_less_start m n true true h = let l = no_less m n _ h in omega (arith, ints)
no_less_start m n false true h = let l = no_less m n _ h in omega (arith, ints)
no_less_start m n false false h = let l = no_less m n _ h in omega (arith, ints)
no_less_start m n true false h =
    by_lt_z m n
    (λ l. omega (arith, ints))
    (λ l. let e : is_lt (ordering_then (int_cmp n m) (bool_cmp false true)) ≡ true = grind
    (arith, ints) in absurd (grind arith))

rises_from_sorted : (ks : List Crossing) → IsSorted place_cmp ks → Rises ks
rises_from_sorted [] h = tt
rises_from_sorted (k ∷ []) h = tt
rises_from_sorted (k ∷ l ∷ ks) h =
    let here = h 0 k (omega arith) (omega arith) in (
      no_less k.floor l.floor _ here,
      no_less_start k.floor l.floor k.between l.between here,
      rises_from_sorted (l ∷ ks) (sorted_tail place_cmp k (l ∷ ks) h),
    )

begins_from : (s : Span) (ss : List Span) → IsSorted span_cmp (s ∷ ss)
    → list_any is_empty (s ∷ ss) ≡ false → BeginFrom s.first ss
begins_from s [] h none = tt
begins_from s (t ∷ ss) h none =
    let rest = (or_parts (is_empty s) (list_any is_empty (t ∷ ss)) none).1 in
    let here : is_empty t ≡ false = (or_parts (is_empty t) (list_any is_empty ss) rest).0 in (
      no_less s.first t.first _ (h 0 s (omega arith) (omega arith)),
      grind (arith, ints),
      begins_from t ss (sorted_tail span_cmp s (t ∷ ss) h) rest,
    )

merged_all_any : (x : ℤ) (fs : List Span) → IsSorted span_cmp fs → list_any is_empty fs ≡ false
    → list_any (is_in_span x) (merged_all fs) ≡ list_any (is_in_span x) fs
merged_all_any x [] h none = refl
merged_all_any x (s ∷ ss) h none = merged_hold x s ss (begins_from s ss h none)

merged_all_apart : (fs : List Span) → IsSorted span_cmp fs → list_any is_empty fs ≡ false
    → AreApart (merged_all fs)
merged_all_apart [] h none = tt
merged_all_apart (s ∷ ss) h none =
    let here : is_empty s ≡ false = (or_parts (is_empty s) (list_any is_empty ss) none).0 in
    merged_apart s ss (grind (arith, ints)) (begins_from s ss h none)

full_between : (k l : Crossing) → list_any is_empty (spans_between k l) ≡ false
full_between k l = some (start k) l.floor
  where
    some : (m n : ℤ) → list_any is_empty
        (option_to_list (cond (int_le m n) (Some (record { first = m; last = n })) None)) ≡ false
    some m n = by_lt_z n m
        (λ none. let e : int_le m n ≡ false = grind (arith, ints) in rw e refl)
        (λ more. let e : int_le m n ≡ true = grind (arith, ints) in
        let f : int_lt n m ≡ false = grind (arith, ints) in rw (e, f) refl)

full_pairs : (ks : List Crossing) → list_any is_empty (pairs_from None ks) ≡ false
full_pairs [] = refl
full_pairs (k ∷ []) = refl
full_pairs (k ∷ l ∷ ks) = any_append is_empty (spans_between k l) (pairs_from None ks)
    ∙ rw (full_between k l, full_pairs ks) refl

or_swap : (p q r : Bool) → (p || (q || r)) ≡ ((q || p) || r)
or_swap true true r = refl
or_swap true false r = refl
or_swap false true r = refl
or_swap false false r = refl

-- crossings cs and contacts ts: ks are the crossings in order, fs the contacts and the spans
-- between crossings in order
module _ (cs : List Crossing) (ts : List Span) (ks : List Crossing) (fs ss : List Span)
    (even : length cs % 2 ≡ 0) (filled : list_any is_empty ts ≡ false)
    (places : IsPermutation cs ks) (rise : IsSorted place_cmp ks)
    (spans : IsPermutation (ts ++ pairs_from None ks) fs) (order : IsSorted span_cmp fs)
    (is : ss ≡ merged_all fs) where
  full : list_any is_empty fs ≡ false
  full =
      sym (list_any-IsPermutation is_empty (ts ++ pairs_from None ks) fs spans)
      ∙ (any_append is_empty ts (pairs_from None ks) ∙ rw (filled, full_pairs ks) refl)

  before : (x : ℤ) → count_before x ks ≡ count_before x cs
  before x = sum_by-IsPermutation (λ k. cond (is_before x k) 1 0) cs ks places

  one : (x : ℤ) → is_one x ks ≡ is_one x cs
  one x = sym (list_any-IsPermutation (is_at x) cs ks places)

  found : (x : ℤ) → list_any (is_in_span x)
      fs ≡ (list_any (is_in_span x) ts || (is_one x ks || nat_eq (count_before x ks % 2) 1))
  found x =
      sym (list_any-IsPermutation (is_in_span x) (ts ++ pairs_from None ks) fs spans)
      ∙ (any_append (is_in_span x) ts (pairs_from None ks)
      ∙ ap (λ b. list_any (is_in_span x) ts || b) (pairs_any x ks
      ∙ pairs_hold x ks (rises_from_sorted ks rise)
      (ap (λ n. n % 2) (length_permutation cs ks places) ∙ even)))

  exact : (x : ℤ) → list_any (is_in_span x) ss ≡ is_enclosed cs ts x
  exact x =
      ap (list_any (is_in_span x)) is
      ∙ (merged_all_any x fs order full
      ∙ (found x
      ∙ rw (before x, one x) (or_swap (list_any (is_in_span x) ts) (is_one x cs)
      (nat_eq (count_before x cs % 2) 1))))

  pub joined : IsJoined cs ts ss
  joined = record { exact = exact; apart = rw is (merged_all_apart fs order full) }
