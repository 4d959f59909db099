-- Spans that begin no earlier than the one before them, those that meet made one: the same numbers,
-- in spans that are apart.
use Rattle.std.specs.Prelude.{◌≡◌, ℕ, ◌+◌, ◌<◌, ◌≤◌, length, drop, Bool, true, false, ◌||◌, List}
use Rattle.std.specs.Prelude.{[], ◌∷◌, ◌++◌, ℤ, pos, ◌+ℤ◌, ◌-ℤ◌, ◌≤ℤ◌, ◌<ℤ◌, refl}
use Rattle.std.specs.List.{list_any}
use Rattle.std.proofs.Common.{arith, ap, get_or, sym, ◌∙◌}
use Rattle.std.proofs.lemmas.Int.{ints, by_lt_z, clamps}
use Rattle.std.proofs.lemmas.List.{at_drop_all, at_drop_more}
use Rattle.gf_spans.specs.declared.span.Span.{Span}
use Rattle.gf_spans.specs.JoiningParts.{meets, merged, widened}
use Rattle.gf_spans.specs.Spans.{is_in_span, AreApart}

-- each span holds a number and begins no earlier than the one before it, the first not before n
abbrev pub BeginFrom : ℤ → List Span → Type 0
BeginFrom n [] = Unit {0}
BeginFrom n (s ∷ ss) = (n ≤ℤ s.first) × (s.first ≤ℤ s.last) × BeginFrom s.first ss

begin_later : (m n : ℤ) (ss : List Span) → m ≤ℤ n → BeginFrom n ss → BeginFrom m ss
begin_later m n [] h k = tt
begin_later m n (s ∷ ss) h k = (omega (arith, ints), k.1, k.2)

joined_or : (a b c d : Bool) → a ≡ (b || c) → (a || d) ≡ (b || (c || d))
joined_or a true c d e = rw e refl
joined_or a false c d e = rw e refl

-- two spans that meet are one
meeting : (x : ℤ) (c s : Span) → c.first ≤ℤ s.first → s.first ≤ℤ (c.last +ℤ pos 1)
    → is_in_span x (widened c s) ≡ (is_in_span x c || is_in_span x s)
meeting x c s h k = grind (arith, ints, clamps)

widened_last : (c s : Span) → c.last ≤ℤ (widened c s).last
widened_last c s = omega (arith, ints, clamps)

meets_not : (c s : Span) → (c.last +ℤ pos 1) <ℤ s.first → meets c s ≡ false
meets_not c s h = grind (arith, ints)

meets_so : (c s : Span) → s.first ≤ℤ (c.last +ℤ pos 1) → meets c s ≡ true
meets_so c s h = grind (arith, ints)

pub merged_hold : (x : ℤ) (c : Span) (ss : List Span) → BeginFrom c.first ss
    → list_any (is_in_span x) (merged c ss) ≡ (is_in_span x c || list_any (is_in_span x) ss)
merged_hold x c [] h = refl
merged_hold x c (s ∷ ss) h =
    by_lt_z (c.last +ℤ pos 1) s.first
    (λ apart. rw (meets_not c s apart) (ap (λ t. is_in_span x c || t) (merged_hold x s ss h.2)))
    (λ meet. rw (meets_so c s meet)
    (merged_hold x (widened c s) ss (begin_later c.first s.first ss h.0 h.2)
    ∙ joined_or _ _ _ _ (meeting x c s h.0 meet)))

-- the spans are apart, and the first lies past n and a number that it leaves out
abbrev RisePast : ℤ → List Span → Type 0
RisePast n [] = Unit {0}
RisePast n (s ∷ ss) = ((n +ℤ pos 1) <ℤ s.first) × (s.first ≤ℤ s.last) × RisePast s.last ss

merged_rise : (n : ℤ) (c : Span) (ss : List Span) → (n +ℤ pos 1) <ℤ c.first → c.first ≤ℤ c.last
    → BeginFrom c.first ss → RisePast n (merged c ss)
merged_rise n c [] low one h = (low, one, tt)
merged_rise n c (s ∷ ss) low one h =
    by_lt_z (c.last +ℤ pos 1) s.first
    (λ apart. rw (meets_not c s apart) (low, one, merged_rise c.last s ss apart h.1 h.2))
    (λ meet.
    let far = widened_last c s in
    rw (meets_so c s meet) (merged_rise n (widened c s) ss low (omega (arith, ints))
    (begin_later c.first s.first ss h.0 h.2)))

apart_from : (n : ℤ) (ss : List Span) → RisePast n ss → AreApart ss
apart_from n [] h = tt
apart_from n (s ∷ []) h = h.1
apart_from n (s ∷ t ∷ ss) h = (h.1, h.2.0, apart_from s.last (t ∷ ss) h.2)

pub merged_apart : (c : Span) (ss : List Span) → c.first ≤ℤ c.last → BeginFrom c.first ss
    → AreApart (merged c ss)
merged_apart c ss one h = apart_from (c.first -ℤ pos 2) (merged c ss)
    (merged_rise (c.first -ℤ pos 2) c ss (omega (arith, ints)) one h)

-- spans merged one after the other, and the last one behind them
pub merged_more : (old new whole : List Span) (c last d : Span) (ss : List Span) (i : ℕ)
    → i < length ss → new ++ merged last (drop (i + 1) ss) ≡ old ++ merged c
    (get_or ss i d ∷ drop (i + 1) ss) → old ++ merged c (drop i ss) ≡ whole
    → new ++ merged last (drop (i + 1) ss) ≡ whole
merged_more old new whole c last d ss i l step is = step
    ∙ (sym (at_drop_more (λ ts. old ++ merged c ts) ss i d l) ∙ is)

pub merged_end : (old new whole : List Span) (c : Span) (ss : List Span) (i : ℕ) → length ss ≤ i
    → new ≡ old ++ c ∷ [] → old ++ merged c (drop i ss) ≡ whole → new ≡ whole
merged_end old new whole c ss i l e is = e ∙ (sym (at_drop_all (λ ts. old ++ merged c ts) ss i l)
    ∙ is)
