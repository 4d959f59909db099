-- The sublists of a rising list: what they hold, and the order in which they stand.
use Rattle.std.proofs.Common.{◌≡◌, ◌<◌, List, [], ◌∷◌, map, length, get_or, inl, inr, refl, subst}
use Rattle.std.proofs.Common.{sym, arith}
use Rattle.std.specs.Prelude.{◌⊎◌, Contains}
use Rattle.std.specs.Cmp.{IsTotalOrder}
use Rattle.std.specs.Cmp.Lexicographic.{slice_cmp}
use Rattle.std.specs.List.Sorted.{IsStrictlySortedBy}
use Rattle.std.specs.declared.cmp.Ordering.{Ordering}
use Rattle.std.specs.declared.cmp.Ordering.TheVariants.{Less}
use Rattle.std.proofs.lemmas.Cmp.{tied_itself}
use Rattle.std.proofs.lemmas.List.Elements.{Contains-append_left, Contains-append_right}
use Rattle.std.proofs.lemmas.List.Elements.{Contains-append_cases, Contains-get_or}
use Rattle.std.proofs.lemmas.Map.Keys.{sorted_tail}
use Rattle.gf_base.proofs.ListLemmas.{Contains-cons_cases, Contains-cons_head, Contains-cons_tail}
use Rattle.gf_base.proofs.ListLemmas.{not_Contains-nil, Contains-map, Contains-map_from}
use Rattle.gf_groups.specs.VersionList.{sublists}
use Rattle.gf_base.specs.Pairs.{Pairs}
use Rattle.gf_base.proofs.PairLemmas.{Pairs-append, Pairs-map}
use Rattle.gf_base.proofs.RisingLemmas.{below_tail, rising_cons}

-- ---- each element stands to all later ones as R says

pub rising_from_Pairs : {X : Type 0} (c : X → X → Ordering) (total : IsTotalOrder c) (xs : List X)
    → Pairs (λ a b. c a b ≡ Less) xs → IsStrictlySortedBy c xs
unfolding IsStrictlySortedBy
rising_from_Pairs c total [] p = tt
rising_from_Pairs c total (x ∷ xs) p = rising_cons c total x xs
    (λ k d l. p.0 (get_or xs k d) (Contains-get_or xs k d l)) (rising_from_Pairs c total xs p.1)

pub Pairs_from_rising : {X : Type 0} (c : X → X → Ordering) (total : IsTotalOrder c) (xs : List X)
    → IsStrictlySortedBy c xs → Pairs (λ a b. c a b ≡ Less) xs
Pairs_from_rising c total [] s = tt
Pairs_from_rising c total (x ∷ xs) s = (
  below_tail c total x xs s,
  Pairs_from_rising c total xs (sorted_tail c x xs s),
)

-- ---- sublists

pub sublist_within : {X : Type 0} (xs g : List X) → Contains (sublists xs) g → (a : X)
    → Contains g a → Contains xs a
sublist_within [] g h a i = elim (Contains-cons_cases [] [] g h) [
  | inl e ↦ subst (λ z. Contains z a) e i
  | inr r ↦ absurd (not_Contains-nil g r)
]
sublist_within (x ∷ xs) g h a i = elim (Contains-append_cases (map (λ ys. x ∷ ys) (sublists xs))
    (sublists xs) g h) [
      | inl m ↦
          let w = Contains-map_from (λ ys. x ∷ ys) (sublists xs) g m in
          elim (Contains-cons_cases x w.0 a (subst (λ z. Contains z a) w.2 i)) [
            | inl e ↦ subst (λ z. Contains (x ∷ xs) z) (sym e) (Contains-cons_head x xs)
            | inr j ↦ Contains-cons_tail x xs a (sublist_within xs w.0 w.1 a j)
          ]
      | inr m ↦ Contains-cons_tail x xs a (sublist_within xs g m a i)
    ]

empty_sublist : {X : Type 0} (xs : List X) → Contains (sublists xs) []
empty_sublist [] = Contains-cons_head [] []
empty_sublist (x ∷ xs) = Contains-append_right (map (λ ys. x ∷ ys) (sublists xs)) (sublists xs) []
    (empty_sublist xs)

module _ {X : Type 0} (R : X → X → Ordering) (total : IsTotalOrder R) where
  pub sublist_rising : (xs g : List X) → IsStrictlySortedBy R xs → Contains (sublists xs) g
      → IsStrictlySortedBy R g
  unfolding IsStrictlySortedBy
  sublist_rising [] g s h = elim (Contains-cons_cases [] [] g h) [
    | inl e ↦ subst (IsStrictlySortedBy R) (sym e) tt
    | inr r ↦ absurd (not_Contains-nil g r)
  ]
  sublist_rising (x ∷ xs) g s h = elim (Contains-append_cases (map (λ ys. x ∷ ys) (sublists xs))
      (sublists xs) g h) [
        | inl m ↦
            let w = Contains-map_from (λ ys. x ∷ ys) (sublists xs) g m in
            subst (IsStrictlySortedBy R) (sym w.2) (rising_cons R total x w.0
            (λ k d l. below_tail R total x xs s (get_or w.0 k d)
            (sublist_within xs w.0 w.1 (get_or w.0 k d) (Contains-get_or w.0 k d l)))
            (sublist_rising xs w.0 (sorted_tail R x xs s) w.1))
        | inr m ↦ sublist_rising xs g (sorted_tail R x xs s) m
      ]

  -- what is above an element of a rising list is none of those before it
  not_head : (x : X) (xs : List X) (a : X) → Contains (x ∷ xs) a → R x a ≡ Less → Contains xs a
  not_head x xs a i l = elim (Contains-cons_cases x xs a i) [
    | inl e ↦ let t = tied_itself total x in let k : R x x ≡ Less = subst (λ z. R x z ≡ Less) e l in
        absurd cc
    | inr j ↦ j
  ]

  -- each rising list of elements of a rising list is one of its sublists
  pub rising_sublist : (xs g : List X) → IsStrictlySortedBy R xs → IsStrictlySortedBy R g
      → ((a : X) → Contains g a → Contains xs a) → Contains (sublists xs) g
  rising_sublist xs [] s r f = empty_sublist xs
  rising_sublist [] (y ∷ ys) s r f = absurd (not_Contains-nil y (f y (Contains-cons_head y ys)))
  rising_sublist (x ∷ xs) (y ∷ ys) s r f =
      elim (Contains-cons_cases x xs y (f y (Contains-cons_head y ys))) [
        | inl e ↦
            let later : (a : X) → Contains ys a
            → Contains xs a = λ a i. not_head x xs a (f a (Contains-cons_tail y ys a i))
            (subst (λ z. R z a ≡ Less) e (below_tail R total y ys r a i)) in
            Contains-append_left (map (λ zs. x ∷ zs) (sublists xs)) (sublists xs) (y ∷ ys)
            (subst (λ z. Contains (map (λ zs. x ∷ zs) (sublists xs)) (z ∷ ys)) (sym e)
            (Contains-map (λ zs. x ∷ zs) (sublists xs) ys
            (rising_sublist xs ys (sorted_tail R x xs s) (sorted_tail R y ys r) later)))
        | inr j ↦
            let first = below_tail R total x xs s y j in
            let all : (a : X) → Contains (y ∷ ys) a
            → Contains xs a = λ a i. elim (Contains-cons_cases y ys a i) [
              | inl e ↦ subst (Contains xs) (sym e) j
              | inr k ↦ not_head x xs a (f a i)
                  (total.trans x y a first (below_tail R total y ys r a k))
            ] in
            Contains-append_right (map (λ zs. x ∷ zs) (sublists xs)) (sublists xs) (y ∷ ys)
            (rising_sublist xs (y ∷ ys) (sorted_tail R x xs s) r all)
      ]

  -- h is shorter than g, and all of it is in g
  pub record IsCut (g h : List X) : Type 0 where
    pub shorter : length h < length g
    pub within : (a : X) → Contains h a → Contains g a

  -- g is below h in the order of a dictionary, or h is g with its end cut off
  abbrev pub StandsBefore : List X → List X → Type 0
  StandsBefore g h = (slice_cmp R g h ≡ Less) ⊎ IsCut g h

  with_head : (x : X) (g h : List X) → StandsBefore g h → StandsBefore (x ∷ g) (x ∷ h)
  with_head x g h (inl l) = inl (rw (tied_itself total x) l)
  with_head x g h (inr c) = inr (record {
    shorter = let s = c.shorter in omega arith;
    within = λ a i. elim (Contains-cons_cases x h a i) [
      | inl e ↦ subst (Contains (x ∷ g)) (sym e) (Contains-cons_head x g)
      | inr j ↦ Contains-cons_tail x g a (c.within a j)
    ];
  })

  before_without : (x : X) (xs g h : List X) → IsStrictlySortedBy R (x ∷ xs)
      → ((a : X) → Contains h a → Contains xs a) → StandsBefore (x ∷ g) h
  before_without x xs g [] s f = inr
      (record { shorter = omega arith; within = λ a i. absurd (not_Contains-nil a i) })
  before_without x xs g (y ∷ h) s f = inl
      (rw (below_tail R total x xs s y (f y (Contains-cons_head y h))) refl)

  pub sublists_in_order : (xs : List X) → IsStrictlySortedBy R xs → Pairs StandsBefore (sublists xs)
  sublists_in_order [] s = (λ y i. absurd (not_Contains-nil y i), tt)
  sublists_in_order (x ∷ xs) s =
      let later = sublists_in_order xs (sorted_tail R x xs s) in
      Pairs-append StandsBefore (map (λ ys. x ∷ ys) (sublists xs)) (sublists xs)
      (Pairs-map StandsBefore StandsBefore (λ ys. x ∷ ys) (sublists xs) (with_head x) later)
      later
      (λ g h i j. let w = Contains-map_from (λ ys. x ∷ ys) (sublists xs) g i in
      subst (λ z. StandsBefore z h) (sym w.2) (before_without x xs w.0 h s (sublist_within xs h j)))
