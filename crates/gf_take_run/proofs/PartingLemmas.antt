-- Where a line of a text begins that is behind a place without the end of a line.
use Rattle.std.proofs.Common.{◌≡◌, ℕ, ◌+◌, ◌-◌, ◌<◌, ◌≤◌, ◌++◌, take, Bool, true, false, List}
use Rattle.std.proofs.Common.{nat_eq, refl, length, drop, get_or, inl, inr, sym, ap, ◌∙◌, arith}
use Rattle.std.proofs.Common.{eq-eqb}
use Rattle.std.specs.Prelude.{◌⊎◌, Some, codes, slice_get}
use Rattle.std.specs.List.{starts_with}
use Rattle.std.proofs.lemmas.Bool.{cases_lt, eqb-true, true≢false}
use Rattle.std.proofs.lemmas.List.{get_or-drop, length-drop}
use Rattle.std.proofs.lemmas.Option.{get_or_from_slice_get, slice_get_within, slice_get-get_or}
use Rattle.std.proofs.Math.Seq.{take-length}
use Rattle.memchr.specs.Find.{IsFirstByte, Nowhere, Passes, is_byte}
use Rattle.gf_take_run.specs.Parting.{BeginsFig, IsLineStart}

module _ (text : List ℕ) (start : ℕ) where
  abbrev pub left : List ℕ
  left = drop start text

  -- before a line that begins behind the start stands the end of a line
  passes : (m : ℕ) → start < m → slice_get text (m - 1) ≡ Some 10
      → Passes (is_byte 10) left (m - 1 - start)
  passes m l e =
      let got = get_or_from_slice_get text (m - 1) 10 0 e in
      eq-eqb _ 10 (get_or-drop start text (m - 1 - start) 0
      ∙ (ap (λ k. get_or text k 0) (omega arith) ∙ got))

  within : (m : ℕ) → start < m → slice_get text (m - 1) ≡ Some 10
      → m - 1 - start < length left
  within m l e =
      let w = slice_get_within text (m - 1) 10 e in
      let d = length-drop start text in
      omega (arith, w, d)

  -- no line begins behind the start where no line ends
  pub none_behind : Nowhere (Passes (is_byte 10) left) 0 (length left)
      → (m : ℕ) → start < m → ¬ (IsLineStart text m)
  none_behind none m l (inl z) = absurd (omega (arith, z, l))
  none_behind none m l (inr e) =
      none (m - 1 - start) (omega arith) (within m l e) (passes m l e)

  -- the next line begins behind the first end of a line
  pub next_behind : (end : ℕ) → IsFirstByte (is_byte 10) left (Some end)
      → (m : ℕ) → start < m → IsLineStart text m → start + (end + 1) ≤ m
  next_behind end first m l (inl z) = absurd (omega (arith, z, l))
  next_behind end first m l (inr e) = elim (cases_le m) [
    | inl before ↦ absurd (first.0.before (m - 1 - start) (omega arith) before (passes m l e))
    | inr after ↦ omega (arith, after, l)
  ]
    where
      cases_le : (m : ℕ) → (m - 1 - start < end) ⊎ (end ≤ m - 1 - start)
      cases_le m = cases_lt (m - 1 - start) end

  -- the byte before the next line ends a line
  pub next_line : (end : ℕ) → IsFirstByte (is_byte 10) left (Some end)
      → IsLineStart text (start + (end + 1))
  next_line end first =
      let high = first.0.high in
      let d = length-drop start text in
      let is : get_or left end 0 ≡ 10 = eqb-true _ 10 first.1 in
      inr (ap (λ k. slice_get text k) (omega arith)
      ∙ (slice_get-get_or text (start + end) 0 (omega (arith, high, d))
      ∙ ap Some (sym (get_or-drop start text end 0) ∙ is)))

-- where a FIG text begins, the test says so
pub begun : (text : List ℕ) (start m : ℕ) → start ≡ m → BeginsFig text m → (r : Bool)
    → r ≡ starts_with nat_eq (drop start text) (codes "#FIG") → r ≡ false → ⊥
begun text start m s b r value other =
    let rest = b.rest in
    let is : drop start text ≡ codes "#FIG" ++ rest = ap (λ k. drop k text) s ∙ b.is in
    let yes : starts_with nat_eq (drop start text) (codes "#FIG") ≡ true = rw is refl in
    true≢false (sym yes ∙ (sym value ∙ other))

-- what is left of a text from a place on
pub rest_whole : (text : List ℕ) (start : ℕ)
    → take (length text - start) (drop start text) ≡ drop start text
rest_whole text start =
    ap (λ k. take k (drop start text)) (sym (length-drop start text))
    ∙ take-length (drop start text)
