-- A colour table as a map by number: what a look-up finds, and where a free number goes.
use Rattle.std.proofs.Common.{◌≡◌, ℕ, true, [], ◌∷◌, ◌++◌, eqb, nat_eq, refl, sym, ◌∙◌, inl, inr}
use Rattle.std.specs.Prelude.{Option, Some, None, is_none}
use Rattle.std.specs.Map.{lookup}
use Rattle.std.proofs.lemmas.Bool.{cases_Bool, eqb-true, eqb-false, eq-eqb, ne_eqb, and_parts}
use Rattle.indexmap.specs.IndexMap.{IndexMap, insert_entry}
use Rattle.indexmap.proofs.CallerLemmas.{insert_entry-new}
use Rattle.gf_plane.specs.declared.colour.Rgb.{Rgb}
use Rattle.gf_figures.specs.Colours.{Table, colour_in}
use Rattle.gf_figures.specs.DrawingState.{IsFreeNumber}

-- what the look-up of a number finds is the colour under it
pub lookup_by_number : (table : Table) (n : ℕ) → lookup (nat_eq n) table ≡ colour_in table n
lookup_by_number [] n = refl
lookup_by_number (e ∷ table) n = elim (cases_Bool (eqb e.0 n)) [
  | inl t ↦ rw (t, eq-eqb n e.0 (sym (eqb-true e.0 n t))) refl
  | inr t ↦ rw (t, ne_eqb n e.0 (λ q. eqb-false e.0 n t (sym q))) (lookup_by_number table n)
]

none_from_is_none : (r : Option Rgb) → is_none r ≡ true → r ≡ None
none_from_is_none None h = refl
none_from_is_none (Some c) h = absurd cc

-- a colour under a free number goes last
pub insert_entry-free : {S : Type 0} → (m : IndexMap ℕ Rgb S) (n : ℕ) (c : Rgb)
    → IsFreeNumber m.entries n → insert_entry nat_eq m.entries n c ≡ m.entries ++ (n, c) ∷ []
insert_entry-free m n c free = insert_entry-new nat_eq m n c (lookup_by_number m.entries n
    ∙ none_from_is_none (colour_in m.entries n) (and_parts _ _ free).1)
