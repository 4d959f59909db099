-- A drawing stays lawful as colours and figures are added.
use Rattle.std.proofs.Common.{◌≢◌, ℕ, ◌<◌, List, [], ◌∷◌, ◌++◌, length, zero, suc, get_or, eqb, inl}
use Rattle.std.proofs.Common.{inr, arith}
use Rattle.std.specs.Prelude.{IsTrue, is_none, is_some}
use Rattle.std.proofs.lemmas.Bool.{and_parts, and_from, cases_Bool, eqb-false}
use Rattle.std.proofs.lemmas.List.Elements.{All-nil, All-cons, All-append}
use Rattle.std.proofs.lemmas.List.Quantifiers.{all_pairs_push}
use Rattle.gf_plane.specs.declared.colour.Rgb.{Rgb}
use Rattle.gf_figures.specs.declared.figure.Figure.{Figure}
use Rattle.gf_figures.specs.Colours.{Table, colour_in, standard_colours}
use Rattle.gf_figures.specs.DrawingState.{IsFreeNumber, IsLawfulDrawing, IsLawfulFigure}
use Rattle.gf_figures.specs.DrawingState.{is_table_number}

pub IsLawfulDrawing-add_figure : {S : Type 0} → (table : Table) (figures : List (Figure S))
    (f : Figure S) →
    IsLawfulDrawing (record { table = table; figures = figures }) → IsLawfulFigure table f →
    IsLawfulDrawing (record { table = table; figures = figures ++ f ∷ [] })
IsLawfulDrawing-add_figure table figures f h l = record {
  numbers = h.numbers;
  distinct = h.distinct;
  figures = All-append (IsLawfulFigure table) figures (f ∷ []) h.figures
      (All-cons (IsLawfulFigure table) f [] l (All-nil (IsLawfulFigure table)));
}

-- no entry of a table has a number under which it has no colour
other_number : (table : Table) (n : ℕ) → IsTrue (is_none (colour_in table n))
    → (k : ℕ) (d : ℕ × Rgb) → k < length table → (get_or table k d).0 ≢ n
other_number [] n h k d l = absurd (omega arith)
other_number (e ∷ table) n h zero d l = elim (cases_Bool (eqb e.0 n)) [
  | inl t ↦ let a = rw t at h in absurd (cc)
  | inr t ↦ eqb-false e.0 n t
]
other_number (e ∷ table) n h (suc k) d l = elim (cases_Bool (eqb e.0 n)) [
  | inl t ↦ let a = rw t at h in absurd (cc)
  | inr t ↦ other_number table n (rw t at h) k d (omega arith)
]

-- a number keeps a colour as entries are added
is_some-colour_in : (table added : Table) (n : ℕ) → IsTrue (is_some (colour_in table n))
    → IsTrue (is_some (colour_in (table ++ added) n))
is_some-colour_in [] added n h = absurd (cc)
is_some-colour_in (e ∷ table) added n h = elim (cases_Bool (eqb e.0 n)) [
  | inl t ↦ rw t
  | inr t ↦ rw t (is_some-colour_in table added n (rw t at h))
]

pub IsLawfulDrawing-add_colour : {S : Type 0} → (table : Table) (figures : List (Figure S)) (n : ℕ)
    (c : Rgb) →
    IsLawfulDrawing (record { table = table; figures = figures }) → IsFreeNumber table n →
    IsLawfulDrawing (record { table = table ++ (n, c) ∷ []; figures = figures })
IsLawfulDrawing-add_colour table figures n c h free =
    let parts = and_parts _ _ free in
    record {
      numbers = All-append (λ (e : ℕ × Rgb). IsTrue (is_table_number e.0)) table ((n, c) ∷ [])
          h.numbers
          (All-cons (λ (e : ℕ × Rgb). IsTrue (is_table_number e.0)) (n, c) [] parts.0
          (All-nil (λ (e : ℕ × Rgb). IsTrue (is_table_number e.0))));
      distinct = all_pairs_push (λ (e f : ℕ × Rgb). e.0 ≢ f.0) table (n, c) h.distinct
          (other_number table n parts.1);
      figures = λ k d l. let f = h.figures k d l in let q = and_parts _ _ f in
          and_from _ _ (is_some-colour_in (standard_colours ++ table) ((n, c) ∷ [])
          (get_or figures k d).colour q.0) q.1;
    }
