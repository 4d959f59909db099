-- The numbers of a compiled table: the next one is free, and each colour is found under its own.
use Rattle.std.proofs.Common.{◌≡◌, ℕ, ◌+◌, ◌<◌, ◌≤◌, Bool, true, cond, List, [], ◌∷◌, length, eqb}
use Rattle.std.proofs.Common.{refl, sym, ap, ◌∙◌, inl, inr, arith}
use Rattle.std.specs.Prelude.{not, find, option_map, Option, Some, None, is_none, is_some, nat_le}
use Rattle.std.specs.Prelude.{All}
use Rattle.std.specs.Option.{option_or}
use Rattle.std.specs.List.{position_or_len, enumerate_from, list_any}
use Rattle.std.proofs.lemmas.Bool.{cases_Bool, and_from, cond-true, cond-false, ne_eqb, eq-eqb}
use Rattle.std.proofs.lemmas.Bool.Decides.{nat_tests}
use Rattle.std.proofs.lemmas.List.Elements.{All-head, All-tail, All-nil, All-cons}
use Rattle.std.proofs.lemmas.List.Elements.{All-from_recursion}
use Rattle.std.proofs.lemmas.List.Folds.{find-append}
use Rattle.std.proofs.lemmas.List.FromFn.{length-enumerate_from}
use Rattle.gf_plane.specs.declared.colour.Rgb.{Rgb}
use Rattle.gf_ops.specs.ConflictTests.{colour_eq}
use Rattle.gf_ops.proofs.SameLemmas.{colours_told}
use Rattle.gf_figures.specs.Colours.{Table, colour_in, rgb_of, standard_colours}
use Rattle.gf_figures.specs.DrawingState.{IsFreeNumber, IsLawfulFigure, is_table_number}
use Rattle.gf_drawing.specs.CanonicalDrawing.{number_of}

abbrev is_number : ℕ → ℕ × Rgb → Bool
is_number n e = eqb e.0 n

abbrev Below : ℕ → ℕ × Rgb → Type 0
Below n e = e.0 < n

-- no number of the table is n where all are below it
none_below : (n : ℕ) (table : Table) → All (Below n) table → find (is_number n) table ≡ None
none_below n [] h = refl
none_below n (e ∷ table) h =
    let l = All-head (Below n) e table h in
    cond-false (eqb e.0 n) (Some e) (find (is_number n) table) (ne_eqb e.0 n (λ q. omega arith))
    ∙ none_below n table (All-tail (Below n) e table h)

enumerated_below : (m n : ℕ) (cs : List Rgb) → m + length cs ≤ n
    → All (Below n) (enumerate_from m cs)
enumerated_below m n [] h = All-nil (Below n)
enumerated_below m n (c ∷ cs) h = All-cons (Below n) (m, c) (enumerate_from (m + 1) cs)
    (omega arith) (enumerated_below (m + 1) n cs (omega arith))

in_table : (n : ℕ) → 32 ≤ n → n ≤ 543 → is_table_number n ≡ true
in_table n h l = grind (arith, nat_tests)

-- the number behind those of the colours cs is free
pub free_next : (table : Table) (cs : List Rgb) (n : ℕ) → table ≡ enumerate_from 32 cs
    → length table ≡ n → n < 512 → IsFreeNumber table (32 + n)
free_next table cs n numbered long few =
    let counted : length cs ≡ n = sym (length-enumerate_from 32 cs)
    ∙ (ap length (sym numbered) ∙ long) in
    let none : find (is_number (32 + n)) table ≡ None =
    ap (find (is_number (32 + n))) numbered ∙ none_below (32 + n) (enumerate_from 32 cs)
    (enumerated_below 32 (32 + n) cs (omega arith)) in
    let free : is_none (colour_in table (32 + n)) ≡ true = rw none refl in
    and_from _ _ (in_table (32 + n) (omega arith) (omega arith)) free

-- the colour under the number of an index is the one that stands there
at_place : (p : Rgb → Bool) (m : ℕ) (cs : List Rgb)
    → colour_in (enumerate_from m cs) (m + position_or_len p cs) ≡ find p cs
at_place p m [] = refl
at_place p m (c ∷ cs) =
    let n = position_or_len p (c ∷ cs) in
    let rest = find (is_number (m + n)) (enumerate_from (m + 1) cs) in
    elim (cases_Bool (p c)) [
      | inl t ↦ let e : n ≡ 0 = ap (λ (b : Bool). cond (not b) (1 + position_or_len p cs) 0) t in
          ap (option_map (λ (e : ℕ × Rgb). e.1)) (cond-true (eqb m (m + n)) (Some (m, c)) rest
          (eq-eqb m (m + n) (omega arith)))
          ∙ sym (cond-true (p c) (Some c) (find p cs) t)
      | inr t ↦ let e : n ≡ 1 + position_or_len p cs = ap
          (λ (b : Bool). cond (not b) (1 + position_or_len p cs) 0) t in
          let d : m + n ≡ (m + 1) + position_or_len p cs = omega arith in
          ap (option_map (λ (e : ℕ × Rgb). e.1)) (cond-false (eqb m (m + n)) (Some (m, c)) rest
          (ne_eqb m (m + n) (λ q. omega arith)))
          ∙ (ap (λ k. colour_in (enumerate_from (m + 1) cs) k) d
          ∙ (at_place p (m + 1) cs ∙ sym (cond-false (p c) (Some c) (find p cs) t)))
    ]

-- the colour is found where it is there
find_own : (c : Rgb) (cs : List Rgb) → list_any (colour_eq c) cs ≡ true
    → find (colour_eq c) cs ≡ Some c
find_own c [] h = absurd cc
find_own c (d ∷ cs) h = elim (cases_Bool (colour_eq c d)) [
  | inl t ↦ cond-true (colour_eq c d) (Some d) (find (colour_eq c) cs) t
      ∙ ap (λ (x : Rgb). Some x) (sym ((colours_told c d).0 t))
  | inr t ↦ cond-false (colour_eq c d) (Some d) (find (colour_eq c) cs) t
      ∙ find_own c cs (rw t at h)
]

standard_below : (n : ℕ) → 32 ≤ n → All (Below n) standard_colours
standard_below n l = All-from_recursion (Below n) standard_colours (
  omega arith,
  (
    omega arith,
    (omega arith, (omega arith, (omega arith, (omega arith, (omega arith, (omega arith, tt)))))),
  ),
)

-- a table numbered from 32 gives each of its colours under its number
pub number_gives : (c : Rgb) (cs : List Rgb) → list_any (colour_eq c) cs ≡ true
    → rgb_of (enumerate_from 32 cs) (32 + position_or_len (colour_eq c) cs) ≡ Some c
number_gives c cs h =
    let n = 32 + position_or_len (colour_eq c) cs in
    ap (option_map (λ (e : ℕ × Rgb). e.1))
    (find-append (is_number n) standard_colours (enumerate_from 32 cs)
    ∙ ap (λ (r : Option (ℕ × Rgb)). option_or r (find (is_number n) (enumerate_from 32 cs)))
    (none_below n standard_colours (standard_below n (omega arith))))
    ∙ (at_place (colour_eq c) 32 cs ∙ find_own c cs h)

in_depth : (n : ℕ) → n < 1000 → nat_le n 999 ≡ true
in_depth n h = grind (arith, nat_tests)

-- a figure by the number of one of the colours is lawful
pub lawful_numbered : {S : Type 0} → (table : Table) (cs : List Rgb) (c : Rgb) (shape : S)
    (number depth : ℕ) → table ≡ enumerate_from 32 cs → number ≡ number_of cs c →
    list_any (colour_eq c) cs ≡ true → depth < 1000
    → IsLawfulFigure table (record { shape = shape; colour = number; depth = depth })
lawful_numbered table cs c shape number depth numbered under there room =
    let given : rgb_of table number ≡ Some c = (λ k. rgb_of (numbered k) (under k))
    ∙ number_gives c cs there in
    and_from _ _ (ap is_some given) (in_depth depth room)
