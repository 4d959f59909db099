-- The tests of sets of numbers, in words.
use Rattle.std.proofs.Common.{◌≡◌, ℕ, true, false, List, inl, inr, refl, subst, sym}
use Rattle.std.specs.Prelude.{◌↔◌, Contains, not, ◌==◌}
use Rattle.std.proofs.lemmas.Bool.{cases_Bool, not-true, not_from_false}
use Rattle.std.proofs.lemmas.Bool.Decides.{Decides-eqb}
use Rattle.gf_maximal.specs.Growing.{is_in, intersects, without, is_within}
use Rattle.gf_base.proofs.FilterLemmas.{Contains-filter, list_any_true, list_any_false}
use Rattle.gf_base.proofs.FilterLemmas.{list_any_from, list_all_true}

pub in_list : (g : List ℕ) (a : ℕ) → Contains g a → is_in g a ≡ true
in_list g a h = list_any_from (λ b. a == b) g a h ((Decides-eqb a a).1 refl)

pub from_list : (g : List ℕ) (a : ℕ) → is_in g a ≡ true → Contains g a
from_list g a h = let t = list_any_true (λ b. a == b) g h in
    subst (Contains g) (sym ((Decides-eqb a t.0).0 t.2)) t.1

pub not_in : (g : List ℕ) (a : ℕ) → is_in g a ≡ false → ¬ (Contains g a)
not_in g a n h = let t = in_list g a h in absurd cc

pub out_of : (g : List ℕ) (a : ℕ) → ¬ (Contains g a) → is_in g a ≡ false
out_of g a n = elim (cases_Bool (is_in g a)) [ inl t ↦ absurd (n (from_list g a t)) | inr k ↦ k ]

-- what g holds, k holds
abbrev pub Within : List ℕ → List ℕ → Type 0
Within g k = (a : ℕ) → Contains g a → Contains k a

pub within : (g k : List ℕ) → is_within g k ≡ true → Within g k
within g k t a h = from_list k a (list_all_true (is_in k) g t a h)

pub intersects_one : (d g : List ℕ) → intersects d g ≡ true → (a : ℕ) × Contains d a × Contains g a
intersects_one d g t = let w = list_any_true (is_in d) g t in (w.0, from_list d w.0 w.2, w.1)

pub intersects_from : (d g : List ℕ) (a : ℕ) → Contains d a → Contains g a → intersects d g ≡ true
intersects_from d g a h i = list_any_from (is_in d) g a i (in_list d a h)

pub intersects_swapped : (d g : List ℕ) → intersects g d ≡ intersects d g
intersects_swapped d g = elim (cases_Bool (intersects d g)) [
  | inl t ↦
      let w = intersects_one d g t in
      let y = intersects_from g d w.0 w.2 w.1 in cc
  | inr n ↦ elim (cases_Bool (intersects g d)) [
    | inl t ↦
        let w = intersects_one g d t in
        let y = intersects_from d g w.0 w.2 w.1 in absurd cc
    | inr k ↦ cc
  ]
]

pub intersects_none : (d g : List ℕ) → intersects d g ≡ false → (a : ℕ) → Contains g a
    → ¬ (Contains d a)
intersects_none d g n a h = not_in d a (list_any_false (is_in d) g n a h)

pub Contains-without : (d g : List ℕ) (a : ℕ)
    → Contains (without d g) a ↔ (Contains g a × (¬ (Contains d a)))
Contains-without d g a = (
  λ h. let w = (Contains-filter (λ b. not (is_in d b)) g a).0 h in
      (w.0, not_in d a (not-true (is_in d a) w.1)),
  λ h. (Contains-filter (λ b. not (is_in d b)) g a).1 (
    h.0,
    not_from_false (is_in d a) (out_of d a h.1),
  ),
)
