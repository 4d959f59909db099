-- What lists contain: a filter, and whether some or all elements pass a test. The crates above cite
-- them.
use Rattle.std.proofs.Common.{◌≡◌, Bool, true, false, List, [], ◌∷◌, inl, inr, refl, subst, sym}
use Rattle.std.specs.Prelude.{◌↔◌, Contains, filter}
use Rattle.std.specs.List.{list_any, list_all}
use Rattle.std.proofs.lemmas.Bool.{cases_Bool, cond-true, cond-false, and_parts, and_from}
use Rattle.std.proofs.lemmas.List.Elements.{All-contains, All-filter, All-contains_itself}
use Rattle.std.proofs.lemmas.List.Elements.{filter_passes}
use Rattle.gf_base.proofs.ListLemmas.{Contains-cons_cases, Contains-cons_head, Contains-cons_tail}
use Rattle.gf_base.proofs.ListLemmas.{not_Contains-nil}

-- ---- a filter

kept : {X : Type 0} (p : X → Bool) (xs : List X) (a : X) → Contains xs a → p a ≡ true
    → Contains (filter p xs) a
kept p [] a h t = absurd (not_Contains-nil a h)
kept p (x ∷ xs) a h t = elim (Contains-cons_cases x xs a h) [
  | inl e ↦ let k : p x ≡ true = cc in rw (cond-true (p x) (x ∷ filter p xs) (filter p xs) k)
      (subst (λ z. Contains (x ∷ filter p xs) z) (sym e) (Contains-cons_head x (filter p xs)))
  | inr r ↦ elim (cases_Bool (p x)) [
    | inl k ↦ rw (cond-true (p x) (x ∷ filter p xs) (filter p xs) k)
        (Contains-cons_tail x (filter p xs) a (kept p xs a r t))
    | inr k ↦ rw (cond-false (p x) (x ∷ filter p xs) (filter p xs) k) (kept p xs a r t)
  ]
]

pub Contains-filter : {X : Type 0} (p : X → Bool) (xs : List X) (a : X)
    → Contains (filter p xs) a ↔ (Contains xs a × (p a ≡ true))
Contains-filter p xs a = (
  λ h. (
    All-contains (Contains xs) (filter p xs) a
        (All-filter p (Contains xs) xs (All-contains_itself xs)) h,
    All-contains (λ z. p z ≡ true) (filter p xs) a (filter_passes p xs) h,
  ),
  λ h. kept p xs a h.0 h.1,
)

-- ---- whether some element passes

pub list_any_true : {X : Type 0} (p : X → Bool) (xs : List X) → list_any p xs ≡ true
    → (b : X) × Contains xs b × (p b ≡ true)
list_any_true p [] h = absurd cc
list_any_true p (x ∷ xs) h = elim (cases_Bool (p x)) [
  | inl k ↦ (x, Contains-cons_head x xs, k)
  | inr k ↦ let t : list_any p xs ≡ true = rw k at h in let w = list_any_true p xs t in
      (w.0, Contains-cons_tail x xs w.0 w.1, w.2)
]

pub list_any_false : {X : Type 0} (p : X → Bool) (xs : List X) → list_any p xs ≡ false → (b : X)
    → Contains xs b → p b ≡ false
list_any_false p [] h b i = absurd (not_Contains-nil b i)
list_any_false p (x ∷ xs) h b i = elim (cases_Bool (p x)) [
  | inl k ↦ let t : true ≡ false = rw k at h in absurd cc
  | inr k ↦ elim (Contains-cons_cases x xs b i) [
    | inl e ↦ cc
    | inr r ↦ let t : list_any p xs ≡ false = rw k at h in list_any_false p xs t b r
  ]
]

pub list_any_from : {X : Type 0} (p : X → Bool) (xs : List X) (b : X) → Contains xs b → p b ≡ true
    → list_any p xs ≡ true
list_any_from p xs b h t = elim (cases_Bool (list_any p xs)) [
  | inl k ↦ k
  | inr k ↦ let n = list_any_false p xs k b h in cc
]

pub list_all_true : {X : Type 0} (p : X → Bool) (xs : List X) → list_all p xs ≡ true → (a : X)
    → Contains xs a → p a ≡ true
list_all_true p [] h a i = absurd (not_Contains-nil a i)
list_all_true p (x ∷ xs) h a i = let t = and_parts (p x) (list_all p xs) h in
    elim (Contains-cons_cases x xs a i) [
      | inl e ↦ let k = t.0 in cc
      | inr r ↦ list_all_true p xs t.1 a r
    ]

pub list_all_from : {X : Type 0} (p : X → Bool) (xs : List X)
    → ((a : X) → Contains xs a → p a ≡ true) → list_all p xs ≡ true
list_all_from p [] f = refl
list_all_from p (x ∷ xs) f = and_from (p x) (list_all p xs) (f x (Contains-cons_head x xs))
    (list_all_from p xs (λ a i. f a (Contains-cons_tail x xs a i)))
