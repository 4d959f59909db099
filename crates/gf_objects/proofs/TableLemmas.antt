-- A drawing has few colours.
use Rattle.std.proofs.Common.{◌≡◌, ◌≢◌, ℕ, ◌≤◌, ◌<◌, true, [], ◌∷◌, map, length, eqb, inl, inr}
use Rattle.std.proofs.Common.{arith}
use Rattle.std.specs.Prelude.{All, AllPairs, IsTrue, nat_le}
use Rattle.std.specs.List.{IsDistinct, list_any}
use Rattle.std.proofs.lemmas.Bool.{and_parts, ne_eqb}
use Rattle.std.proofs.lemmas.Bool.Decides.{eqb_tells, nat_tests}
use Rattle.std.proofs.lemmas.List.{get_or-map, length-map}
use Rattle.std.proofs.lemmas.List.Elements.{All-head, All-tail}
use Rattle.std.proofs.lemmas.Map.Keys.{IsDistinct-from_apart}
use Rattle.std.proofs.lemmas.Map.Steps.{length-le_from_distinct_below}
use Rattle.gf_plane.specs.declared.colour.Rgb.{Rgb}
use Rattle.gf_plane.specs.White.{white}
use Rattle.gf_figures.specs.Colours.{Table}
use Rattle.gf_figures.specs.DrawingState.{is_table_number}

-- the number of an entry
abbrev number : ℕ × Rgb → ℕ
number e = e.0

distinct_numbers : (t : Table) → AllPairs (λ (e f : ℕ × Rgb). e.0 ≢ f.0) t
    → IsDistinct eqb (map number t)
distinct_numbers t apart = IsDistinct-from_apart eqb (map number t) (λ i j d l m.
    let long = length-map t number in
    rw (
      get_or-map number t i (d, white) d (omega (arith, l, m, long)),
      get_or-map number t j
          (d, white) d (omega (arith, m, long)),
    )
    (ne_eqb _ _ (apart i j (d, white) l (omega (arith, m, long)))))

below : (t : Table) → All (λ (e : ℕ × Rgb). IsTrue (is_table_number e.0)) t → (n : ℕ)
    → list_any (eqb n) (map number t) ≡ true → n < 544
below [] fit n h = absurd cc
below (e ∷ t) fit n h =
    let first = All-head (λ (e : ℕ × Rgb). IsTrue (is_table_number e.0)) e t fit in
    let range = and_parts (nat_le 32 e.0) (nat_le e.0 543) first in
    elim (eqb_tells n e.0) [
      | inl p ↦ let same = p.1 in let most = range.1 in grind (arith, nat_tests)
      | inr p ↦ below t (All-tail (λ (e : ℕ × Rgb). IsTrue (is_table_number e.0)) e t fit) n
          (rw p.0 at h)
    ]

pub few_colours : (t : Table) → All (λ (e : ℕ × Rgb). IsTrue (is_table_number e.0)) t
    → AllPairs (λ (e f : ℕ × Rgb). e.0 ≢ f.0) t → length t ≤ 544
few_colours t fit apart =
    let few = length-le_from_distinct_below (map number t) 544 (distinct_numbers t apart)
    (below t fit) in
    let long = length-map t number in omega (arith, few, long)
