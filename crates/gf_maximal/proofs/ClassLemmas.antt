-- The largest sets of classes are those of their members.
use Rattle.std.proofs.Common.{◌≡◌, ◌<◌, ℕ, Bool, true, false, List, [], ◌∷◌, length, map, inl}
use Rattle.std.proofs.Common.{inr, refl, subst, sym, ap, ◌∙◌, arith, ◌+◌, get_or}
use Rattle.std.specs.Prelude.{◌↔◌, ◌⊎◌, Contains, filter, not, IsTrue}
use Rattle.std.specs.List.{flat_map, range_with_len}
use Rattle.std.specs.FinMap.{nat_cmp-IsAntisymmetric}
use Rattle.std.specs.Ordering.{nat_cmp}
use Rattle.std.proofs.lemmas.Bool.{cases_Bool, cases_eq, cases_lt}
use Rattle.std.proofs.lemmas.Cmp.{nat_cmp_total}
use Rattle.std.proofs.lemmas.List.{get_or_past, get_or_default}
use Rattle.std.proofs.lemmas.List.Elements.{Contains-append_cases, Contains-append_left}
use Rattle.std.proofs.lemmas.List.Elements.{Contains-append_right}
use Rattle.std.proofs.lemmas.List.Kept.{IsStrictlySortedBy-filter}
use Rattle.gf_maximal.specs.Growing.{intersects, joined}
use Rattle.gf_maximal.specs.LargestSets.{IsLargest, IsRising, AreLargestSets}
use Rattle.gf_maximal.specs.Rows.{conflict}
use Rattle.gf_maximal.specs.Classes.{ClassesState, members_of, has_some, used, spread, gathered}
use Rattle.gf_maximal.specs.Classes.{AreClasses}
use Rattle.gf_base.proofs.ListLemmas.{Contains-cons_cases, Contains-cons_head, Contains-cons_tail}
use Rattle.gf_base.proofs.ListLemmas.{not_Contains-nil, Contains-map, Contains-map_from}
use Rattle.gf_base.proofs.FilterLemmas.{Contains-filter}
use Rattle.gf_base.proofs.RisingLemmas.{one_rising, rising_nil}
use Rattle.gf_base.proofs.InsertLemmas.{inserted, holds, inserted_all, holds_all}
use Rattle.gf_base.proofs.PairLemmas.{AllPairs-map}
use Rattle.gf_maximal.proofs.MaximalLemmas.{Within, intersects_one, intersects_from}
use Rattle.gf_maximal.proofs.PutLemmas.{Contains-range, range_alone}

-- ---- members

pub some_there : (xs : List ℕ) → has_some xs ≡ true → (a : ℕ) × Contains xs a
some_there [] t = absurd cc
some_there (x ∷ xs) t = (x, Contains-cons_head x xs)

pub has_some_from : (xs : List ℕ) (a : ℕ) → Contains xs a → has_some xs ≡ true
has_some_from [] a h = absurd (not_Contains-nil a h)
has_some_from (x ∷ xs) a h = refl

-- the element k of g of which f makes a list with a
pub in_flat : (f : ℕ → List ℕ) (g : List ℕ) (a : ℕ)
    → Contains (flat_map f g) a ↔ ((k : ℕ) × Contains g k × Contains (f k) a)
in_flat f [] a = (
  λ h. absurd (not_Contains-nil a h),
  λ w. absurd (not_Contains-nil w.0 w.1),
)
in_flat f (x ∷ g) a = let deep = in_flat f g a in (
  λ h. elim (Contains-append_cases (f x) (flat_map f g) a h) [
    | inl i ↦ (x, Contains-cons_head x g, i)
    | inr i ↦ let w = deep.0 i in (w.0, Contains-cons_tail x g w.0 w.1, w.2)
  ],
  λ w. elim (Contains-cons_cases x g w.0 w.1) [
    | inl e ↦ Contains-append_left (f x) (flat_map f g) a
        (subst (λ z. Contains (f z) a) e w.2)
    | inr i ↦ Contains-append_right (f x) (flat_map f g) a (deep.1 (w.0, i, w.2))
  ],
)

module _ (s : ClassesState) where
  -- a class beyond the last has no member
  pub placed_below : (k a : ℕ) → Contains (members_of s k) a → k < length s.members
  placed_below k a h = elim (cases_lt k (length s.members)) [
    | inl l ↦ l
    | inr n ↦ absurd (not_Contains-nil a
        (subst (λ z. Contains z a) (get_or_past s.members k [] n) h))
  ]

  pub in_used : (k : ℕ) → Contains (used s) k ↔ ((a : ℕ) × Contains (members_of s k) a)
  in_used k = (
    λ h. some_there (members_of s k)
        ((Contains-filter (λ j. has_some (members_of s j))
        (range_with_len 0 (length s.members)) k).0 h).1,
    λ w. let l = placed_below k w.0 w.1 in
        (Contains-filter (λ j. has_some (members_of s j))
        (range_with_len 0 (length s.members)) k).1 (
          (Contains-range (length s.members) 0 k).1 (omega arith, omega arith),
          has_some_from (members_of s k) w.0 w.1,
        ),
  )

  pub used_below : (k : ℕ) → Contains (used s) k → k < length s.members
  used_below k h = let w = (in_used k).0 h in placed_below k w.0 w.1

  pub used_rises : IsRising (used s)
  used_rises = IsStrictlySortedBy-filter nat_cmp (λ k. has_some (members_of s k))
      (range_with_len 0 (length s.members)) (range_alone (length s.members) 0)

  pub spread_rises : (g : List ℕ) → IsRising (spread s g)
  spread_rises g = inserted_all nat_cmp nat_cmp_total nat_cmp-IsAntisymmetric
      (flat_map (members_of s) g) [] (rising_nil nat_cmp nat_cmp_total)

  pub in_spread : (g : List ℕ) (a : ℕ)
      → Contains (spread s g) a ↔ ((k : ℕ) × Contains g k × Contains (members_of s k) a)
  in_spread g a = (
    λ h. elim ((holds_all nat_cmp nat_cmp_total nat_cmp-IsAntisymmetric
        (flat_map (members_of s) g) [] a).0 h) [
          | inl i ↦ absurd (not_Contains-nil a i)
          | inr i ↦ (in_flat (members_of s) g a).0 i
        ],
    λ w. (holds_all nat_cmp nat_cmp_total nat_cmp-IsAntisymmetric (flat_map (members_of s) g) []
        a).1 (inr ((in_flat (members_of s) g a).1 w)),
  )

  pub gathered_rises : (q : List ℕ) → IsRising (gathered s q)
  gathered_rises q = IsStrictlySortedBy-filter nat_cmp (λ k. intersects q (members_of s k))
      (used s) used_rises

  pub in_gathered : (q : List ℕ) (k : ℕ) → Contains (gathered s q) k
      ↔ ((a : ℕ) × Contains q a × Contains (members_of s k) a)
  in_gathered q k = (
    λ h. intersects_one q (members_of s k)
        ((Contains-filter (λ j. intersects q (members_of s j)) (used s) k).0 h).1,
    λ w. (Contains-filter (λ j. intersects q (members_of s j)) (used s) k).1
        ((in_used k).1 (w.0, w.2), intersects_from q (members_of s k) w.0 w.1 w.2),
  )

-- ---- classes of the numbers us, of which two conflict by c

module _ (c : ℕ → ℕ → Bool) (us : List ℕ) (s : ClassesState) (classes : AreClasses c us s) where
  -- the class of a member tells the classes that have it
  pub of_spread : (g : List ℕ) (k a : ℕ) → Contains (members_of s k) a → Contains (spread s g) a
      → Contains g k
  of_spread g k a i h = let w = (in_spread s g a).0 h in
      subst (Contains g) (classes.once w.0 k a w.2 i) w.1

  pub spread_largest : (g : List ℕ) → IsLargest (conflict s.rows) (Contains (used s)) (Contains g)
      → IsLargest c (Contains us) (Contains (spread s g))
  spread_largest g m = record {
    within = λ a h. let w = (in_spread s g a).0 h in (classes.placed a).1 (w.0, w.2);
    compatible = λ a b h i.
        let v = (in_spread s g a).0 h in let w = (in_spread s g b).0 i in
        classes.conflicts v.0 w.0 a b v.2 w.2 ∙ m.compatible v.0 w.0 v.1 w.1;
    largest = λ a h. let w = (classes.placed a).0 h in
        elim (m.largest w.0 ((in_used s w.0).1 (a, w.1))) [
          | inl i ↦ inl ((in_spread s g a).1 (w.0, i, w.1))
          | inr v ↦ let b = (in_used s v.0).0 (m.within v.0 v.1) in inr (
            b.0,
            (in_spread s g b.0).1 (v.0, v.1, b.1),
            classes.conflicts w.0 v.0 a b.0 w.1 b.1 ∙ v.2,
          )
        ];
  }

  pub gathered_largest : (q : List ℕ) → IsLargest c (Contains us) (Contains q)
      → IsLargest (conflict s.rows) (Contains (used s)) (Contains (gathered s q))
  gathered_largest q m = record {
    within = λ k h. let w = (in_gathered s q k).0 h in (in_used s k).1 (w.0, w.2);
    compatible = λ j k h i.
        let v = (in_gathered s q j).0 h in let w = (in_gathered s q k).0 i in
        sym (classes.conflicts j k v.0 w.0 v.2 w.2) ∙ m.compatible v.0 w.0 v.1 w.1;
    largest = λ k h. let w = (in_used s k).0 h in
        elim (m.largest w.0 ((classes.placed w.0).1 (k, w.1))) [
          | inl i ↦ inl ((in_gathered s q k).1 (w.0, i, w.1))
          | inr v ↦ let p = (classes.placed v.0).0 (m.within v.0 v.1) in inr (
            p.0,
            (in_gathered s q p.0).1 (v.0, v.1, p.1),
            sym (classes.conflicts k p.0 w.0 v.0 w.1 p.1) ∙ v.2,
          )
        ];
  }

  -- a largest set has all of a class or none of it
  pub whole : (q : List ℕ) → IsLargest c (Contains us) (Contains q) → (k a b : ℕ) → Contains q b
      → Contains (members_of s k) b → Contains (members_of s k) a → Contains q a
  whole q m k a b h i j = elim (m.largest a ((classes.placed a).1 (k, j))) [
    | inl here ↦ here
    | inr v ↦
        let p = (classes.placed v.0).0 (m.within v.0 v.1) in
        let one = classes.conflicts k p.0 a v.0 j p.1 in
        let two = classes.conflicts k p.0 b v.0 i p.1 in
        let no = m.compatible b v.0 h v.1 in let yes = v.2 in absurd cc
  ]

  pub spread_gathered : (q : List ℕ) → IsRising q → IsLargest c (Contains us) (Contains q)
      → spread s (gathered s q) ≡ q
  spread_gathered q r m = one_rising nat_cmp nat_cmp_total (spread s (gathered s q)) q
      (spread_rises s (gathered s q)) r (λ a. (
        λ h. let w = (in_spread s (gathered s q) a).0 h in
            let v = (in_gathered s q w.0).0 w.1 in whole q m w.0 a v.0 v.1 v.2 w.2,
        λ h. let p = (classes.placed a).0 (m.within a h) in
            (in_spread s (gathered s q) a).1
            (p.0, (in_gathered s q p.0).1 (a, h, p.1), p.1),
      ))

  spread_within : (g h : List ℕ) → Within g (used s) → spread s g ≡ spread s h → Within g h
  spread_within g h w e k i = let m = (in_used s k).0 (w k i) in
      of_spread h k m.0 m.1 (subst (λ z. Contains z m.0) e ((in_spread s g m.0).1 (k, i, m.1)))

  pub spread_one : (g h : List ℕ) → IsRising g → IsRising h → Within g (used s)
      → Within h (used s) → spread s g ≡ spread s h → g ≡ h
  spread_one g h r t v w e = one_rising nat_cmp nat_cmp_total g h r t
      (λ a. (spread_within g h v e a, spread_within h g w (sym e) a))

  -- THE LAW: from the largest sets of classes come those of their members
  pub largest_spread : (gs : List (List ℕ)) → AreLargestSets (conflict s.rows) (used s) gs
      → AreLargestSets c us (map (spread s) gs)
  largest_spread gs t = record {
    each = λ q. (
      λ h. let w = Contains-map_from (spread s) gs q h in
          let m = (t.each w.0).0 w.1 in
          subst (λ z. IsRising z × IsLargest c (Contains us) (Contains z)) (sym w.2)
          (spread_rises s w.0, spread_largest w.0 m.1),
      λ m. subst (Contains (map (spread s) gs)) (spread_gathered q m.0 m.1)
          (Contains-map (spread s) gs (gathered s q)
          ((t.each (gathered s q)).1 (gathered_rises s q, gathered_largest q m.1))),
    );
    once = AllPairs-map (spread s) gs (λ g h i j e.
        let m = (t.each g).0 i in let n = (t.each h).0 j in
        spread_one g h m.0 n.0 m.1.within n.1.within e) t.once;
  }

-- ---- the classes in use, one number after the other

module _ (p : ℕ → Bool) where
  in_front : (n a : ℕ) → Contains (filter p (range_with_len 0 n)) a ↔ ((a < n) × (p a ≡ true))
  in_front n a = (
    λ h. let w = (Contains-filter p (range_with_len 0 n) a).0 h in
        let l = ((Contains-range n 0 a).0 w.0).1 in (omega arith, w.1),
    λ w. let l = w.0 in (Contains-filter p (range_with_len 0 n) a).1
        ((Contains-range n 0 a).1 (omega arith, omega arith), w.1),
  )

  front_rises : (n : ℕ) → IsRising (filter p (range_with_len 0 n))
  front_rises n =
      IsStrictlySortedBy-filter nat_cmp p (range_with_len 0 n) (range_alone n 0)

  taken_in : (n : ℕ) → p n ≡ true
      → joined n (filter p (range_with_len 0 n)) ≡ filter p (range_with_len 0 (n + 1))
  taken_in n t =
      let old = filter p (range_with_len 0 n) in
      one_rising nat_cmp nat_cmp_total (joined n old) (filter p (range_with_len 0 (n + 1)))
      (inserted nat_cmp nat_cmp_total nat_cmp-IsAntisymmetric n old (front_rises n))
      (front_rises (n + 1)) (λ a.
      let has = holds nat_cmp nat_cmp_total nat_cmp-IsAntisymmetric n old a in (
        λ h. (in_front (n + 1) a).1 (elim (has.0 h) [
          | inl i ↦ let w = (in_front n a).0 i in let l = w.0 in (omega arith, w.1)
          | inr e ↦ (omega arith, subst (λ z. p z ≡ true) (sym e) t)
        ]),
        λ h. let w = (in_front (n + 1) a).0 h in let l = w.0 in
            has.1 (elim (cases_eq a n) [
              | inl e ↦ inr e
              | inr d ↦ inl ((in_front n a).1 (omega arith, w.1))
            ]),
      ))

  left_out : (n : ℕ) → p n ≡ false
      → filter p (range_with_len 0 n) ≡ filter p (range_with_len 0 (n + 1))
  left_out n t = one_rising nat_cmp nat_cmp_total (filter p (range_with_len 0 n))
      (filter p (range_with_len 0 (n + 1))) (front_rises n) (front_rises (n + 1)) (λ a. (
        λ h. let w = (in_front n a).0 h in let l = w.0 in
            (in_front (n + 1) a).1 (omega arith, w.1),
        λ h. let w = (in_front (n + 1) a).0 h in let l = w.0 in
            elim (cases_eq a n) [
              | inl e ↦ let k = subst (λ z. p z ≡ true) e w.1 in absurd cc
              | inr d ↦ (in_front n a).1 (omega arith, w.1)
            ],
      ))

-- the classes cs that have a member
abbrev Filled : List (List ℕ) → ℕ → Bool
Filled cs k = has_some (get_or cs k [])

filled_is : (cs : List (List ℕ)) (n : ℕ) (x : List ℕ) (e : Bool) → n < length cs
    → x ≡ get_or cs n x → IsTrue e ↔ (x ≡ []) → Filled cs n ≡ not e
filled_is cs n [] e l read f =
    let here : get_or cs n [] ≡ [] = sym read in ap has_some here ∙ sym (ap not (f.1 refl))
filled_is cs n (a ∷ x) e l read f =
    let here : get_or cs n [] ≡ a ∷ x = sym (read ∙ get_or_default cs n (a ∷ x) [] l) in
    elim (cases_Bool e) [
      | inl t ↦ let no = f.0 t in absurd cc
      | inr k ↦ ap has_some here ∙ sym (ap not k)
    ]

pub used_more : (cs : List (List ℕ)) (n : ℕ) (x old new : List ℕ) (e : Bool) → n < length cs
    → x ≡ get_or cs n x → IsTrue e ↔ (x ≡ [])
    → ((e ≡ false) × (new ≡ joined n old)) ⊎ ((e ≡ true) × (new ≡ old))
    → old ≡ filter (Filled cs) (range_with_len 0 n)
    → new ≡ filter (Filled cs) (range_with_len 0 (n + 1))
used_more cs n x old new e l read f w o = elim w [
  | inl v ↦ v.1 ∙ (ap (joined n) o
      ∙ taken_in (Filled cs) n (filled_is cs n x e l read f ∙ ap not v.0))
  | inr v ↦ v.1 ∙ (o ∙ left_out (Filled cs) n (filled_is cs n x e l read f ∙ ap not v.0))
]

pub used_have_rows : (s : ClassesState) (numbers : List ℕ) (rows : List (List ℕ))
    → length s.rows ≡ length s.members → numbers ≡ used s → rows ≡ s.rows → (a : ℕ)
    → Contains numbers a → a < length rows
used_have_rows s numbers rows e f g a h =
    let l = used_below s a (subst (λ z. Contains z a) f h) in
    subst (λ (z : List (List ℕ)). a < length z) (sym g) (omega arith)
