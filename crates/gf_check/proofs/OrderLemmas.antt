-- The order of the lines of a text, and of what is told of them.
use Rattle.std.specs.Prelude.{ℕ, Bool, not, ◌+◌, ◌<◌, ◌≤◌, Contains, AllPairs, filter}
use Rattle.std.proofs.Common.{◌≡◌, ◌≢◌, List, [], ◌∷◌, ◌++◌, inl, inr, sym, ap, subst, ◌∙◌, arith}
use Rattle.std.specs.List.{enumerate_from, slice_split}
use Rattle.std.proofs.lemmas.Bool.{cases_Bool, cond-true, cond-false}
use Rattle.gf_base.proofs.FilterLemmas.{Contains-filter}
use Rattle.gf_base.proofs.ListLemmas.{Contains-cons_cases, not_Contains-nil}
use Rattle.gf_base.proofs.PairLemmas.{AllPairs-append}
use Rattle.gf_streams.specs.TextLines.{is_blank, is_line_end, numbered_lines}
use Rattle.gf_ops.specs.declared.op.OpId.{OpId}
use Rattle.gf_ops.specs.declared.faults.OpFault.{OpFault}
use Rattle.gf_replay.specs.declared.reading_error.LineCause.{LineCause}
use Rattle.gf_replay.specs.declared.reading_error.ReadingError.{ReadingError}
use Rattle.gf_replay.specs.declared.reading_error.ReadingError.TheVariants as reading
use Rattle.gf_check.specs.FaultLines.{Told, errors}
use Rattle.gf_check.specs.AllFaults.{RisesTo}
use Rattle.gf_check.specs.CheckedLines.{AreBefore, AreInOrder}
use Rattle.gf_check.proofs.ToldLemmas.{errors_more}

-- ---- the numbers of lines

not_below : {X : Type 0} (n : ℕ) (xs : List X) (k : ℕ × X) → Contains (enumerate_from n xs) k
    → n ≤ k.0
not_below n [] k c = absurd (not_Contains-nil k c)
not_below n (x ∷ xs) k c = elim (Contains-cons_cases (n, x) (enumerate_from (n + 1) xs) k c) [
  | inl e ↦ let same : k.0 ≡ n = ap (λ p. p.0) e in omega arith
  | inr j ↦ let more = not_below (n + 1) xs k j in omega arith
]

-- of elements with their places, those behind one have later places
later : {X : Type 0} (p : ℕ × X → Bool) (n : ℕ) (xs : List X) (before : List (ℕ × X)) (a : ℕ × X)
    (after : List (ℕ × X)) →
    filter p (enumerate_from n xs) ≡ before ++ a ∷ after → (k : ℕ × X) → Contains after k
    → a.0 < k.0
later p n [] [] a after e k c = absurd cc
later p n [] (b ∷ before) a after e k c = absurd cc
later {X = X} p n (x ∷ xs) before a after e k c = elim (cases_Bool (p (n, x))) [
  | inl t ↦ first before (λ front g. later p (n + 1) xs front a after g k c)
      (sym (cond-true (p (n, x)) ((n, x) ∷ others) others t) ∙ e)
  | inr f ↦ later p (n + 1) xs before a after
      (sym (cond-false (p (n, x)) ((n, x) ∷ others) others f) ∙ e) k c
]
  where
    others : List (ℕ × X)
    others = filter p (enumerate_from (n + 1) xs)

    first : (front : List (ℕ × X)) → ((rest : List (ℕ × X)) → others ≡ rest ++ a ∷ after
        → a.0 < k.0) → (n, x) ∷ others ≡ front ++ a ∷ after → a.0 < k.0
    first [] behind g =
        let head : (n, x) ≡ a = cc in
        let tail : others ≡ after = cc in
        let at : n ≡ a.0 = ap (λ p. p.0) head in
        let inside = ((Contains-filter p (enumerate_from (n + 1) xs) k).0
        (subst (λ l. Contains l k) (sym tail) c)).0 in
        let more = not_below (n + 1) xs k inside in
        omega arith
    first (b ∷ front) behind g = let tail : others ≡ front ++ a ∷ after = cc in behind front tail

-- the lines behind line n have greater numbers
pub numbers_rise : (bytes : List ℕ) (before : List (ℕ × List ℕ)) (n : ℕ) (text : List ℕ)
    (after : List (ℕ × List ℕ)) → numbered_lines bytes ≡ before ++ (n, text) ∷ after →
    (k : ℕ × List ℕ) → Contains after k → n < k.0
numbers_rise bytes before n text after whole k c = later (λ line. not (is_blank line.1)) 1
    (slice_split is_line_end bytes) before (n, text) after whole k c

-- ---- what is told

alone : (R : ReadingError → ReadingError → Type 0) (e : ReadingError) → AllPairs R (e ∷ [])
alone R e i j d lt within = absurd (omega arith)

pairs_more : (R : ReadingError → ReadingError → Type 0) (told : List Told) (u : Told)
    → ((e : ReadingError) → Contains (errors told) e → R e u.error) → AllPairs R (errors told) →
    AllPairs R (errors (told ++ u ∷ []))
pairs_more R told u behind pairs =
    subst (AllPairs R) (sym (errors_more told u)) (AllPairs-append R (errors told) (u.error ∷ [])
    pairs (alone R u.error) (λ e f c k. elim (Contains-cons_cases u.error [] f k) [
      | inl same ↦ subst (R e) (sym same) (behind e c)
      | inr none ↦ absurd (not_Contains-nil f none)
    ]))

in_order : (told : List Told) (u : Told) → ((e : ReadingError) → Contains (errors told) e
    → RisesTo e u.error) → ¬ (Contains (errors told) u.error) → AreInOrder told
    → AreInOrder (told ++ u ∷ [])
in_order told u behind fresh o = record {
  rises = pairs_more RisesTo told u behind o.rises;
  once = pairs_more (λ e f. e ≢ f) told u
      (λ e c same. fresh (subst (Contains (errors told)) same c)) o.once;
}

rises_drop : (i : OpId) (why : OpFault) (e : ReadingError) → RisesTo e (reading.Dropped i why)
rises_drop i why (reading.Line m cause) = tt
rises_drop i why (reading.Dropped j other) = tt
rises_drop i why reading.OutOfMemory = tt

rises_line : (told : List Told) (n : ℕ) (cause : LineCause) → AreBefore n told → (e : ReadingError)
    → Contains (errors told) e → RisesTo e (reading.Line n cause)
rises_line told n cause before (reading.Line m other) c = before m other c
rises_line told n cause before (reading.Dropped j other) c = tt
rises_line told n cause before reading.OutOfMemory c = tt

-- a drop that is not told
pub order_drop : (told : List Told) (i : OpId) (fault : OpFault) (why : List ℕ)
    → ¬ (Contains (errors told) (reading.Dropped i fault)) → AreInOrder told →
    AreInOrder (told ++ record { error = reading.Dropped i fault; why = why } ∷ [])
order_drop told i fault why fresh o = in_order told
    (record { error = reading.Dropped i fault; why = why }) (λ e c. rises_drop i fault e) fresh o

-- a line behind those that are told
pub order_line : (told : List Told) (n : ℕ) (cause : LineCause) (why : List ℕ) → AreBefore n told
    → AreInOrder told → AreInOrder (told ++ record { error = reading.Line n cause; why = why } ∷ [])
order_line told n cause why before o =
    in_order told (record { error = reading.Line n cause; why = why })
    (rises_line told n cause before) (λ c. let less = before n cause c in absurd (omega arith)) o
