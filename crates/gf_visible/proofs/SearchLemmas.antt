-- A choice that can't hold any more is dropped, and the others are found in their order.
use Rattle.std.proofs.Common.{◌≡◌, ℕ, zero, suc, ◌≤◌, ◌<◌, Bool, true, false, not, ◌&&◌, ◌||◌, List}
use Rattle.std.proofs.Common.{[], ◌∷◌, ◌++◌, ◌+◌, ◌-◌, ◌^◌, filter, drop, get_or, length, inl, inr}
use Rattle.std.proofs.Common.{refl, subst, sym, ap, ◌∙◌, arith}
use Rattle.std.specs.Prelude.{◌⊎◌, Contains}
use Rattle.std.proofs.lemmas.Bool.{cases_Bool, cond-true, cond-false, and_parts, and_from, or_cases}
use Rattle.std.proofs.lemmas.List.Elements.{filter-append, Contains-append_cases}
use Rattle.std.proofs.lemmas.List.Elements.{Contains-append_left, Contains-append_right}
use Rattle.std.proofs.Math.Nat.{pow-suc}
use Rattle.std.proofs.lemmas.List.{append_assoc}
use Rattle.gf_base.proofs.ListLemmas.{Contains-cons_cases, Contains-cons_head, Contains-cons_tail}
use Rattle.gf_base.proofs.ListLemmas.{not_Contains-nil}
use Rattle.gf_maximal.specs.Growing.{intersects, without}
use Rattle.gf_base.proofs.FilterLemmas.{list_all_true, list_all_from}
use Rattle.gf_maximal.proofs.MaximalLemmas.{Within, intersects_one, intersects_from}
use Rattle.gf_maximal.proofs.MaximalLemmas.{Contains-without}
use Rattle.gf_visible.specs.Choices.{StepState, holds, all_hold, choices, answers, first, second}
use Rattle.gf_visible.specs.PendingChoices.{ChoiceState, all_answers, weight_of}

-- ---- the rest of a list

drop_at : {X : Type 0} (xs : List X) (i : ℕ) (d : X) → i < length xs
    → drop i xs ≡ get_or xs i d ∷ drop (suc i) xs
drop_at [] i d l = absurd (omega arith)
drop_at (x ∷ xs) zero d l = refl
drop_at (x ∷ xs) (suc i) d l = drop_at xs i d (omega arith)

pub drop_next : {X : Type 0} (xs : List X) (i : ℕ) (d : X) → i < length xs
    → drop i xs ≡ get_or xs i d ∷ drop (i + 1) xs
drop_next xs i d l = let e : suc i ≡ i + 1 = omega arith in
    subst (λ n. drop i xs ≡ get_or xs i d ∷ drop n xs) e (drop_at xs i d l)

-- ---- what is possible shrinks

intersects_more : (d g p : List ℕ) → Within g p → intersects d g ≡ true → intersects d p ≡ true
intersects_more d g p w t = let m = intersects_one d g t in intersects_from d p m.0 m.1 (w m.0 m.2)

pub or_first : (a b : Bool) → a ≡ true → (a || b) ≡ true
or_first true b t = refl
or_first false b t = absurd cc

pub or_second : (a b : Bool) → b ≡ true → (a || b) ≡ true
or_second true b t = refl
or_second false b t = t

-- what holds among fewer positions holds among more
holds_more : (g p : List ℕ) (s : StepState) → Within g p → holds g s ≡ true → holds p s ≡ true
holds_more g p s w t = elim (or_cases (intersects s.own g && (not s.hides || intersects s.covers g))
    (intersects s.rivals g) t) [
      | inl a ↦
          let parts = and_parts (intersects s.own g) (not s.hides || intersects s.covers g) a in
          let covered : (not s.hides || intersects s.covers p) ≡ true = elim (or_cases (not s.hides)
          (intersects s.covers g) parts.1) [
            | inl n ↦ or_first (not s.hides) (intersects s.covers p) n
            | inr m ↦ or_second (not s.hides) (intersects s.covers p)
                (intersects_more s.covers g p w m)
          ] in
          or_first (intersects s.own p && (not s.hides || intersects s.covers p))
          (intersects s.rivals p)
          (and_from (intersects s.own p) (not s.hides || intersects s.covers p)
          (intersects_more s.own g p w parts.0)
          covered)
      | inr m ↦ or_second (intersects s.own p && (not s.hides || intersects s.covers p))
          (intersects s.rivals p)
          (intersects_more s.rivals g p w m)
    ]

-- ---- the choices of one step

-- g comes from a step that is chosen, is left out, or is not possible
abbrev pub Ways : StepState → List StepState → List ℕ → List ℕ → Type 0
Ways s steps p g =
    ((intersects s.own p ≡ true) × Contains (choices steps (without s.rivals p)) g)
    ⊎ (Contains (choices steps (without s.own p)) g
    ⊎ ((intersects s.own p ≡ false) × Contains (choices steps p) g))

module _ (s : StepState) (steps : List StepState) (p : List ℕ) where
  pub choices_in : intersects s.own p ≡ true
      → choices (s ∷ steps) p ≡ choices steps (first s p) ++ choices steps (second s p)
  choices_in y = cond-true (intersects s.own p)
      (choices steps (first s p) ++ choices steps (second s p))
      (choices steps p) y

  pub choices_out : intersects s.own p ≡ false → choices (s ∷ steps) p ≡ choices steps p
  choices_out n = cond-false (intersects s.own p)
      (choices steps (first s p) ++ choices steps (second s p)) (choices steps p) n

  module _ (y : intersects s.own p ≡ true) where
    by_first : (g : List ℕ) → Contains (choices steps (first s p)) g
        → Contains (choices (s ∷ steps) p) g
    by_first g i = subst (λ z. Contains z g) (sym (choices_in y))
        (Contains-append_left (choices steps (first s p)) (choices steps (second s p)) g i)

    by_second : (g : List ℕ) → Contains (choices steps (second s p)) g
        → Contains (choices (s ∷ steps) p) g
    by_second g i = subst (λ z. Contains z g) (sym (choices_in y))
        (Contains-append_right (choices steps (first s p)) (choices steps (second s p)) g i)

    pub by_chosen : (g : List ℕ) → Contains (choices steps (without s.rivals p)) g
        → Contains (choices (s ∷ steps) p) g
    by_chosen g i = elim (cases_Bool s.hides) [
      | inl h ↦ by_second g (subst (λ z. Contains (choices steps z) g)
          (sym (cond-true s.hides (without s.rivals p) (without s.own p) h)) i)
      | inr h ↦ by_first g (subst (λ z. Contains (choices steps z) g)
          (sym (cond-false s.hides (without s.own p) (without s.rivals p) h)) i)
    ]

    pub by_left : (g : List ℕ) → Contains (choices steps (without s.own p)) g
        → Contains (choices (s ∷ steps) p) g
    by_left g i = elim (cases_Bool s.hides) [
      | inl h ↦ by_first g (subst (λ z. Contains (choices steps z) g)
          (sym (cond-true s.hides (without s.own p) (without s.rivals p) h)) i)
      | inr h ↦ by_second g (subst (λ z. Contains (choices steps z) g)
          (sym (cond-false s.hides (without s.rivals p) (without s.own p) h)) i)
    ]

  pub ways : (g : List ℕ) → Contains (choices (s ∷ steps) p) g → Ways s steps p g
  ways g i = elim (cases_Bool (intersects s.own p)) [
    | inl y ↦ elim (cases_Bool s.hides) [
      | inl h ↦ elim (Contains-append_cases (choices steps (first s p)) (choices steps (second s p))
          g (subst (λ z. Contains z g) (choices_in y) i)) [
            | inl j ↦ inr (inl (subst (λ z. Contains (choices steps z) g)
                (cond-true s.hides (without s.own p) (without s.rivals p) h) j))
            | inr j ↦ inl (
              y,
              subst (λ z. Contains (choices steps z) g)
                  (cond-true s.hides (without s.rivals p) (without s.own p) h) j,
            )
          ]
      | inr h ↦ elim (Contains-append_cases (choices steps (first s p)) (choices steps (second s p))
          g (subst (λ z. Contains z g) (choices_in y) i)) [
            | inl j ↦ inl (
              y,
              subst (λ z. Contains (choices steps z) g)
                  (cond-false s.hides (without s.own p) (without s.rivals p) h) j,
            )
            | inr j ↦ inr (inl (subst (λ z. Contains (choices steps z) g)
                (cond-false s.hides (without s.rivals p) (without s.own p) h) j))
          ]
    ]
    | inr n ↦ inr (inr (n, subst (λ z. Contains z g) (choices_out n) i))
  ]

pub choice_within : (steps : List StepState) (p g : List ℕ) → Contains (choices steps p) g
    → Within g p
choice_within [] p g i a h = elim (Contains-cons_cases p [] g i) [
  | inl e ↦ subst (λ z. Contains z a) e h
  | inr n ↦ absurd (not_Contains-nil g n)
]
choice_within (s ∷ steps) p g i a h = elim (ways s steps p g i) [
  | inl w ↦ ((Contains-without s.rivals p a).0 (choice_within steps (without s.rivals p) g w.1 a
      h)).0
  | inr v ↦ elim v [
    | inl j ↦ ((Contains-without s.own p a).0 (choice_within steps (without s.own p) g j a h)).0
    | inr w ↦ choice_within steps p g w.1 a h
  ]
]

-- ---- the answers

filter_none : {X : Type 0} (t : X → Bool) (xs : List X) → ((x : X) → Contains xs x → t x ≡ false)
    → filter t xs ≡ []
filter_none t [] f = refl
filter_none t (x ∷ xs) f = rw (cond-false (t x) (x ∷ filter t xs) (filter t xs)
    (f x (Contains-cons_head x xs))) (filter_none t xs (λ y i. f y (Contains-cons_tail x xs y i)))

module _ (all : List StepState) where
  all_more : (g p : List ℕ) → Within g p → all_hold all g ≡ true → all_hold all p ≡ true
  all_more g p w t = list_all_from (holds p) all
      (λ s i. holds_more g p s w (list_all_true (holds g) all t s i))

  -- where a step can't hold any more, no choice does
  hopeless : (steps : List StepState) (p : List ℕ) → all_hold all p ≡ false
      → answers all steps p ≡ []
  hopeless steps p n = filter_none (all_hold all) (choices steps p)
      (λ g i. elim (cases_Bool (all_hold all g)) [
        | inl y ↦ let bad = all_more g p (choice_within steps p g i) y in absurd cc
        | inr n2 ↦ n2
      ])

  answers_in : (s : StepState) (steps : List StepState) (p : List ℕ) → intersects s.own p ≡ true
      → answers all (s ∷ steps) p ≡ answers all steps (first s p) ++ answers all steps (second s p)
  answers_in s steps p y = ap (filter (all_hold all)) (choices_in s steps p y)
      ∙ filter-append (all_hold all) (choices steps (first s p)) (choices steps (second s p))

  -- ---- what is left

  -- a choice that can't hold is not put there
  pub left_same : (left new : List ChoiceState) (o : ChoiceState) → new ≡ left
      → false ≡ all_hold all o.possible → all_answers all new ≡ answers all (drop o.at all)
      o.possible ++ all_answers all left
  left_same left new o e n = ap (all_answers all) e
      ∙ rw (hopeless (drop o.at all) o.possible (sym n)) refl

  -- where nothing holds, nothing more is found
  pub none_more : (f rest : List (List ℕ)) (steps : List StepState) (p : List ℕ)
      → false ≡ all_hold all p → f ++ rest ≡ f ++ (answers all steps p ++ rest)
  none_more f rest steps p n = rw (hopeless steps p (sym n)) refl

  -- ---- a turn of the choice, at the step s

  module _ (i : ℕ) (s : StepState) (p : List ℕ) (less : i < length all)
      (is : s ≡ get_or all i s) where
    abbrev rest : List StepState
    rest = drop (i + 1) all

    split : drop i all ≡ s ∷ rest
    split = drop_next all i s less ∙ ap (λ (z : StepState). z ∷ rest) (sym is)

    both : intersects s.own p ≡ true → answers all (drop i all) p ≡ answers all rest
        (first s p) ++ answers all rest (second s p)
    both y = ap (λ zs. answers all zs p) split ∙ answers_in s rest p y

    pub turn_out : (goal left : List (List ℕ)) → intersects s.own p ≡ false
        → answers all (drop i all) p ++ left ≡ goal → answers all rest p ++ left ≡ goal
    turn_out goal left n leads =
        ap (λ zs. zs ++ left) (sym (ap (λ zs. answers all zs p) split
        ∙ ap (filter (all_hold all)) (choices_out s rest p n))) ∙ leads

    module _ (a b : List ℕ) (is_a : a ≡ first s p) (is_b : b ≡ second s p)
        (y : true ≡ intersects s.own p) where
      ways_told : answers all (drop i all) p ≡ answers all rest a ++ answers all rest b
      ways_told = both (sym y)
          ∙ (ap (λ z. answers all rest z ++ answers all rest (second s p)) (sym is_a)
          ∙ ap (λ z. answers all rest a ++ answers all rest z) (sym is_b))

      -- the second way is left, and the first one goes on
      pub turn_both : (goal left new : List (List ℕ)) → new ≡ answers all rest b ++ left
          → answers all (drop i all) p ++ left ≡ goal → answers all rest a ++ new ≡ goal
      turn_both goal left new pushed leads =
          ap (λ zs. answers all rest a ++ zs) pushed
          ∙ (sym (append_assoc (answers all rest a) (answers all rest b) left)
          ∙ (ap (λ zs. zs ++ left) (sym ways_told) ∙ leads))

  -- the first way holds nothing, and only the second one is left
  pub turn_none : (f goal left : List (List ℕ)) (steps : List StepState) (a : List ℕ)
      → false ≡ all_hold all a → answers all steps a ++ left ≡ goal → f ++ left ≡ f ++ goal
  turn_none f goal left steps a n leads = ap (λ zs. f ++ zs)
      (ap (λ zs. zs ++ left) (sym (hopeless steps a (sym n))) ∙ leads)

-- ---- the greatest number of choices

pow_some : (k : ℕ) → 1 ≤ 2 ^ k
pow_some zero = omega arith
pow_some (suc k) = let e = pow-suc 2 k in let l = pow_some k in omega (arith, e, l)

pub weight_some : (n i : ℕ) → 1 ≤ weight_of n i
weight_some n i = pow_some (n - i)

pub weight_halves : (n i : ℕ) → i < n → weight_of n i ≡ weight_of n (i + 1) + weight_of n (i + 1)
weight_halves n i l =
    let k : n - i ≡ suc (n - (i + 1)) = omega arith in
    let e = pow-suc 2 (n - (i + 1)) in
    let d = ap (λ z. 2 ^ z) k in
    omega (arith, e, d)
