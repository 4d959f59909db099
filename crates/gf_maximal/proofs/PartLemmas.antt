-- Growth from some of the sets gives what growth from all gives, as far as only sets with a wanted
-- property are kept, and these come from kept ones.
use Rattle.std.proofs.Common.{◌≡◌, Bool, true, ℕ, List, [], ◌∷◌, ◌++◌, map, inl, inr, refl, ap}
use Rattle.std.proofs.Common.{sym, ◌∙◌, arith, ◌≤◌, length}
use Rattle.std.proofs.lemmas.List.{length-map}
use Rattle.std.specs.Prelude.{Contains, filter}
use Rattle.std.proofs.lemmas.Bool.{cases_Bool, cond-true, cond-false}
use Rattle.std.proofs.lemmas.List.Elements.{filter-append}
use Rattle.gf_base.proofs.ListLemmas.{Contains-cons_head, Contains-cons_tail}
use Rattle.gf_base.proofs.FilterLemmas.{Contains-filter}
use Rattle.gf_maximal.specs.Parents.{met, cut, is_parent, next_cut}

module _ {X Y : Type 0} (f : X → Y) (p : X → Bool) (q : Y → Bool) where
  keeps : (x : X) (ys : List Y) (zs : List Y) → filter q ys ≡ filter q zs
      → filter q (f x ∷ ys) ≡ filter q (f x ∷ zs)
  keeps x ys zs e = elim (cases_Bool (q (f x))) [
    | inl t ↦ cond-true (q (f x)) (f x ∷ filter q ys) (filter q ys) t
        ∙ (ap (λ l. f x ∷ l) e ∙ sym (cond-true (q (f x)) (f x ∷ filter q zs) (filter q zs) t))
    | inr n ↦ cond-false (q (f x)) (f x ∷ filter q ys) (filter q ys) n
        ∙ (e ∙ sym (cond-false (q (f x)) (f x ∷ filter q zs) (filter q zs) n))
  ]

  pub mapped_part : (xs : List X) → ((x : X) → Contains xs x → q (f x) ≡ true → p x ≡ true)
      → filter q (map f (filter p xs)) ≡ filter q (map f xs)
  mapped_part [] g = refl
  mapped_part (x ∷ xs) g =
      let i = mapped_part xs (λ y h. g y (Contains-cons_tail x xs y h)) in
      elim (cases_Bool (p x)) [
        | inl t ↦ ap (λ l. filter q (map f l)) (cond-true (p x) (x ∷ filter p xs) (filter p xs) t)
            ∙ keeps x (map f (filter p xs)) (map f xs) i
        | inr n ↦ elim (cases_Bool (q (f x))) [
          | inl t ↦ let k = g x (Contains-cons_head x xs) t in absurd cc
          | inr m ↦ ap (λ l. filter q (map f l))
              (cond-false (p x) (x ∷ filter p xs) (filter p xs) n)
              ∙ (i ∙ sym (cond-false (q (f x)) (f x ∷ filter q (map f xs)) (filter q (map f xs)) m))
        ]
      ]

module _ {X : Type 0} (p : X → Bool) where
  -- the order of two filters does not matter
  swapped : (q : X → Bool) (xs : List X) → filter q (filter p xs) ≡ filter p (filter q xs)
  swapped q [] = refl
  swapped q (x ∷ xs) = elim (cases_Bool (p x)) [
    | inl t ↦ elim (cases_Bool (q x)) [
      | inl u ↦ rw (t, u, t) (ap (λ l. x ∷ l) (swapped q xs))
      | inr u ↦ rw (t, u) (swapped q xs)
    ]
    | inr t ↦ elim (cases_Bool (q x)) [
      | inl u ↦ rw (t, u, t) (swapped q xs)
      | inr u ↦ rw (t, u) (swapped q xs)
    ]
  ]

-- of sets with p alone come all sets with q, if each of these comes from one with p
pub next_part : (c : ℕ → ℕ → Bool) (us d : List ℕ) (x : ℕ) (p q : List ℕ → Bool)
    (gs : List (List ℕ)) → ((g : List ℕ) → Contains gs g → q (met d x g) ≡ true → p g ≡ true)
    → ((g : List ℕ) → Contains gs g → q (cut d x g) ≡ true → p g ≡ true)
    → filter q (next_cut c us d x (filter p gs)) ≡ filter q (next_cut c us d x gs)
next_part c us d x p q gs f h =
    let parents = filter (is_parent c us d) gs in
    let mets : filter q (map (met d x) (filter p gs)) ≡ filter q (map (met d x) gs) =
    mapped_part (met d x) p q gs f in
    let cuts : filter q (map (cut d x) (filter (is_parent c us d) (filter p gs)))
    ≡ filter q (map (cut d x) parents) =
    ap (λ l. filter q (map (cut d x) l)) (swapped p (is_parent c us d) gs)
    ∙ mapped_part (cut d x) p q parents
    (λ g i. h g ((Contains-filter (is_parent c us d) gs g).0 i).0) in
    filter-append q (map (met d x) (filter p gs))
    (map (cut d x) (filter (is_parent c us d) (filter p gs)))
    ∙ (ap (λ l. l ++ filter q (map (cut d x) (filter (is_parent c us d) (filter p gs)))) mets
    ∙ (ap (λ l. filter q (map (met d x) gs) ++ l) cuts
    ∙ sym (filter-append q (map (met d x) gs) (map (cut d x) parents))))

-- ---- how many there are

longer_front : {X : Type 0} (xs ys : List X) → length xs ≤ length (xs ++ ys)
longer_front [] ys = omega arith
longer_front (x ∷ xs) ys = let i = longer_front xs ys in omega arith

module _ {X Y : Type 0} (f : X → Y) (p : X → Bool) (q : Y → Bool) where
  -- what f makes of an element with p has q
  mapped_keeps : (xs : List X) → ((x : X) → Contains xs x → p x ≡ true → q (f x) ≡ true)
      → length (filter p xs) ≤ length (filter q (map f xs))
  mapped_keeps [] g = omega arith
  mapped_keeps (x ∷ xs) g =
      let i = mapped_keeps xs (λ y h. g y (Contains-cons_tail x xs y h)) in
      elim (cases_Bool (p x)) [
        | inl t ↦ rw (t, g x (Contains-cons_head x xs) t) (omega arith)
        | inr n ↦ elim (cases_Bool (q (f x))) [
          | inl t ↦ rw (n, t) (omega arith)
          | inr m ↦ rw (n, m) (omega arith)
        ]
      ]

-- each set goes on into another, so with a property that stays they get no fewer
pub met_keeps_count : (c : ℕ → ℕ → Bool) (us d : List ℕ) (x : ℕ) (q : List ℕ → Bool)
    (gs : List (List ℕ)) → ((g : List ℕ) → Contains gs g → q g ≡ true → q (met d x g) ≡ true)
    → length (filter q gs) ≤ length (filter q (next_cut c us d x gs))
met_keeps_count c us d x q gs f =
    let mets = map (met d x) gs in
    let cuts = map (cut d x) (filter (is_parent c us d) gs) in
    let one : length (filter q gs) ≤ length (filter q mets) = mapped_keeps (met d x) q q gs f in
    let two = longer_front (filter q mets) (filter q cuts) in
    rw (filter-append q mets cuts) (omega arith)

-- so all of them get no fewer
pub next_cut_longer : (c : ℕ → ℕ → Bool) (us d : List ℕ) (x : ℕ) (gs : List (List ℕ))
    → length gs ≤ length (next_cut c us d x gs)
next_cut_longer c us d x gs =
    let mets = map (met d x) gs in
    let cuts = map (cut d x) (filter (is_parent c us d) gs) in
    let two = longer_front mets cuts in
    omega (arith, length-map gs (met d x))
