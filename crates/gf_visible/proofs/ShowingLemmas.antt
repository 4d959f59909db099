-- The choices that hold are the largest compatible sets in which each position that hides is
-- covered, each once.
use Rattle.std.proofs.Common.{◌≡◌, ◌≢◌, ℕ, Bool, true, false, not, ◌&&◌, ◌||◌, cond, List, [], ◌∷◌}
use Rattle.std.proofs.Common.{◌++◌, filter, map, inl, inr, subst, sym}
use Rattle.std.proofs.Common.{ap, ◌∙◌, arith, fold}
use Rattle.std.specs.Prelude.{◌⊎◌, All, AllPairs, Contains}
use Rattle.std.specs.BTreeSet.{insert_key}
use Rattle.std.specs.declared.cmp.Ordering.TheVariants.{Less}
use Rattle.std.specs.List.{items_where_true}
use Rattle.std.specs.List.Sorted.{IsStrictlySortedBy}
use Rattle.std.specs.Ordering.{nat_cmp}
use Rattle.std.specs.FinMap.{nat_cmp-IsAntisymmetric}
use Rattle.std.proofs.lemmas.Bool.{cases_Bool, cond-true, cond-false, and_parts, and_from, or_cases}
use Rattle.std.proofs.lemmas.Bool.{not-true, not_from_false}
use Rattle.std.proofs.lemmas.Cmp.{nat_cmp_total}
use Rattle.std.proofs.lemmas.List.Elements.{All-nil, All-cons, All-head, All-tail, filter-append}
use Rattle.std.proofs.lemmas.List.Elements.{All-from_recursion, recursion_from_All}
use Rattle.std.proofs.lemmas.List.Elements.{Contains-append_cases, Contains-append_left}
use Rattle.std.proofs.lemmas.List.Elements.{Contains-append_right}
use Rattle.std.proofs.lemmas.List.Kept.{IsStrictlySortedBy-filter}
use Rattle.gf_base.proofs.ListLemmas.{Contains-cons_cases, Contains-cons_head, Contains-cons_tail}
use Rattle.gf_base.proofs.ListLemmas.{Contains-map, Contains-map_from, not_Contains-nil}
use Rattle.gf_maximal.specs.Growing.{is_in, intersects, without}
use Rattle.gf_maximal.specs.LargestSets.{IsRising}
use Rattle.gf_base.proofs.InsertLemmas.{inserted_all, holds_all}
use Rattle.gf_base.proofs.FilterLemmas.{Contains-filter, list_all_true, list_all_from}
use Rattle.gf_maximal.proofs.MaximalLemmas.{Within, from_list, not_in, intersects_one}
use Rattle.gf_maximal.proofs.MaximalLemmas.{intersects_from}
use Rattle.gf_maximal.proofs.MaximalLemmas.{Contains-without}
use Rattle.gf_base.proofs.PairLemmas.{AllPairs-append}
use Rattle.gf_base.proofs.RisingLemmas.{one_rising, rising_nil}
use Rattle.gf_visible.specs.Choices.{StepState, holds, all_hold, choices, first, second, step_of}
use Rattle.gf_visible.specs.Choices.{hiding_first, showing, IsShowing, AreShowing}
use Rattle.gf_visible.proofs.SearchLemmas.{ways, by_chosen, by_left, choices_in, choices_out}
use Rattle.gf_visible.proofs.SearchLemmas.{choice_within, or_first, or_second}

-- rising numbers are their own set
pub set_same : (us : List ℕ) → IsRising us → fold (insert_key nat_cmp) [] us ≡ us
set_same us form = one_rising nat_cmp nat_cmp_total (fold (insert_key nat_cmp) [] us) us
    (inserted_all nat_cmp nat_cmp_total nat_cmp-IsAntisymmetric us []
    (rising_nil nat_cmp nat_cmp_total)) form
    (λ a. (
      λ i. elim ((holds_all nat_cmp nat_cmp_total nat_cmp-IsAntisymmetric us [] a).0 i) [
        | inl n ↦ absurd (not_Contains-nil a n)
        | inr j ↦ j
      ],
      λ i. (holds_all nat_cmp nat_cmp_total nat_cmp-IsAntisymmetric us [] a).1 (inr i),
    ))

-- what holds of all numbers holds of those at `true`
pub picked_all : (P : ℕ → Type 0) (bs : List Bool) (us : List ℕ) → All P us
    → All P (items_where_true bs us)
picked_all P [] us all = All-nil P
picked_all P (b ∷ bs) [] all = All-nil P
picked_all P (false ∷ bs) (u ∷ us) all = picked_all P bs us (All-tail P u us all)
picked_all P (true ∷ bs) (u ∷ us) all = All-cons P u (items_where_true bs us) (All-head P u us all)
    (picked_all P bs us (All-tail P u us all))

-- of rising numbers, those at `true` rise
pub picked_rising : (bs : List Bool) (us : List ℕ) → IsRising us → IsRising (items_where_true bs us)
unfolding IsStrictlySortedBy
picked_rising [] us r = tt
picked_rising (b ∷ bs) [] r = tt
picked_rising (false ∷ bs) (u ∷ us) r = picked_rising bs us r.1
picked_rising (true ∷ bs) (u ∷ us) r =
    let P : ℕ → Type 0 = λ a. nat_cmp u a ≡ Less in
    let above = picked_all P bs us (All-from_recursion P us r.0) in
    (recursion_from_All P (items_where_true bs us) above, picked_rising bs us r.1)

-- ---- each choice rises

choice_rises : (steps : List StepState) (p g : List ℕ) → IsRising p → Contains (choices steps p) g
    → IsRising g
choice_rises [] p g r i = elim (Contains-cons_cases p [] g i) [
  | inl e ↦ subst IsRising (sym e) r
  | inr n ↦ absurd (not_Contains-nil g n)
]
choice_rises (s ∷ steps) p g r i = elim (ways s steps p g i) [
  | inl w ↦ choice_rises steps (without s.rivals p) g
      (IsStrictlySortedBy-filter nat_cmp (λ a. not (is_in s.rivals a)) p r) w.1
  | inr v ↦ elim v [
    | inl j ↦ choice_rises steps (without s.own p) g
        (IsStrictlySortedBy-filter nat_cmp (λ a. not (is_in s.own a)) p r) j
    | inr w ↦ choice_rises steps p g r w.1
  ]
]

-- ---- those that hide before the others

module _ (hides : ℕ → Bool) (us : List ℕ) where
  abbrev shows : ℕ → Bool
  shows x = not (hides x)

  pub within_order : Within (hiding_first hides us) us
  within_order x i = elim (Contains-append_cases (filter hides us) (filter shows us) x i) [
    | inl j ↦ ((Contains-filter hides us x).0 j).0
    | inr j ↦ ((Contains-filter shows us x).0 j).0
  ]

  pub in_order : Within us (hiding_first hides us)
  in_order x i = elim (cases_Bool (hides x)) [
    | inl h ↦ Contains-append_left (filter hides us) (filter shows us) x
        ((Contains-filter hides us x).1 (i, h))
    | inr n ↦ Contains-append_right (filter hides us) (filter shows us) x
        ((Contains-filter shows us x).1 (i, not_from_false (hides x) n))
  ]

-- ---- one step

module _ (hides : ℕ → Bool) (covers rivals : ℕ → ℕ → Bool) (us : List ℕ) where
  abbrev step : ℕ → StepState
  step x = step_of hides covers rivals us x

  abbrev steps : List ℕ → List StepState
  steps xs = map (step_of hides covers rivals us) xs

  -- the positions in the order of their steps
  abbrev os : List ℕ
  os = hiding_first hides us

  alone : (x : ℕ) (g : List ℕ) → intersects (x ∷ []) g ≡ true → Contains g x
  alone x g t = let w = intersects_one (x ∷ []) g t in elim (Contains-cons_cases x [] w.0 w.1) [
    | inl e ↦ subst (Contains g) e w.2
    | inr n ↦ absurd (not_Contains-nil w.0 n)
  ]

  alone_from : (x : ℕ) (g : List ℕ) → Contains g x → intersects (x ∷ []) g ≡ true
  alone_from x g i = intersects_from (x ∷ []) g x (Contains-cons_head x []) i

  -- a rival of x in g
  abbrev Hit : List ℕ → ℕ → Type 0
  Hit g x = (b : ℕ) × Contains g b × (rivals x b ≡ true)

  hit : (x : ℕ) (g : List ℕ) → intersects (filter (rivals x) us) g ≡ true → Hit g x
  hit x g t = let w = intersects_one (filter (rivals x) us) g t in
      (w.0, w.2, ((Contains-filter (rivals x) us w.0).0 w.1).1)

  hit_from : (x : ℕ) (g : List ℕ) → Within g us → Hit g x → intersects (filter (rivals x) us) g
      ≡ true
  hit_from x g within w = intersects_from (filter (rivals x) us) g w.0
      ((Contains-filter (rivals x) us w.0).1 (within w.0 w.1, w.2)) w.1

  -- g has one that covers x
  abbrev Cover : List ℕ → ℕ → Type 0
  Cover g x = (b : ℕ) × Contains g b × (covers x b ≡ true)

  cover : (x : ℕ) (g : List ℕ) → hides x ≡ true → intersects (step x).covers g ≡ true → Cover g x
  cover x g h t =
      let e : (step x).covers ≡ filter (covers x) us = cond-true (hides x) (filter (covers x) us) []
      h in
      let w = intersects_one (filter (covers x) us) g (subst (λ z. intersects z g ≡ true) e t) in
      (w.0, w.2, ((Contains-filter (covers x) us w.0).0 w.1).1)

  cover_from : (x : ℕ) (g : List ℕ) → Within g us → hides x ≡ true → Cover g x
      → intersects (step x).covers g ≡ true
  cover_from x g within h w =
      let e : (step x).covers ≡ filter (covers x) us = cond-true (hides x) (filter (covers x) us) []
      h in
      subst (λ z. intersects z g ≡ true) (sym e)
      (intersects_from (filter (covers x) us) g w.0
      ((Contains-filter (covers x) us w.0).1 (within w.0 w.1, w.2)) w.1)

  -- x is chosen and covered, or left out for a rival
  abbrev Held : List ℕ → ℕ → Type 0
  Held g x = (Contains g x × (hides x ≡ true → Cover g x)) ⊎ Hit g x

  held : (x : ℕ) (g : List ℕ) → holds g (step x) ≡ true → Held g x
  held x g t = elim (or_cases
      (intersects (x ∷ []) g && (not (hides x) || intersects (step x).covers g))
      (intersects (step x).rivals g) t) [
        | inl a ↦
            let w = and_parts (intersects (x ∷ []) g)
            (not (hides x) || intersects (step x).covers g) a in
            inl (
              alone x g w.0,
              λ h. elim (or_cases (not (hides x)) (intersects (step x).covers g) w.1) [
                | inl n ↦ let no = not-true (hides x) n in absurd cc
                | inr m ↦ cover x g h m
              ],
            )
        | inr m ↦ inr (hit x g m)
      ]

  held_from : (x : ℕ) (g : List ℕ) → Within g us → Held g x → holds g (step x) ≡ true
  held_from x g within (inl w) =
      let covered : (not (hides x) || intersects (step x).covers g)
      ≡ true = elim (cases_Bool (hides x)) [
        | inl h ↦ or_second (not (hides x)) (intersects (step x).covers g)
            (cover_from x g within h (w.1 h))
        | inr n ↦ or_first (not (hides x)) (intersects (step x).covers g)
            (not_from_false (hides x) n)
      ] in
      or_first (intersects (x ∷ []) g && (not (hides x) || intersects (step x).covers g))
      (intersects (step x).rivals g)
      (and_from (intersects (x ∷ []) g) (not (hides x) || intersects (step x).covers g)
      (alone_from x g w.0)
      covered)
  held_from x g within (inr w) = or_second
      (intersects (x ∷ []) g && (not (hides x) || intersects (step x).covers g))
      (intersects (step x).rivals g)
      (hit_from x g within w)

  -- ---- what a choice holds

  -- where a choice has a position of xs, it has none of its rivals
  chosen_calm : (xs : List ℕ) (p g : List ℕ) → Within p us → Contains (choices (steps xs) p) g
      → (x : ℕ) → Contains xs x → Contains g x → ¬ (Hit g x)
  chosen_calm [] p g within i x h k w = not_Contains-nil x h
  chosen_calm (y ∷ xs) p g within i x h k w = elim (Contains-cons_cases y xs x h) [
    | inl e ↦ elim (ways (step y) (steps xs) p g i) [
      | inl v ↦
          let there = (Contains-without (filter (rivals y) us) p w.0).0
          (choice_within (steps xs) (without (filter (rivals y) us) p) g v.1 w.0 w.1) in
          there.1 ((Contains-filter (rivals y) us w.0).1
          (within w.0 there.0, subst (λ z. rivals z w.0 ≡ true) e w.2))
      | inr v ↦ elim v [
        | inl j ↦ ((Contains-without (y ∷ []) p x).0 (choice_within (steps xs) (without (y ∷ []) p)
            g j x k)).1 (subst (Contains (y ∷ [])) (sym e) (Contains-cons_head y []))
        | inr j ↦ let bad = alone_from y p
            (subst (Contains p) e (choice_within (steps xs) p g j.1 x k)) in let no = j.0 in
            absurd cc
      ]
    ]
    | inr r ↦ elim (ways (step y) (steps xs) p g i) [
      | inl v ↦ chosen_calm xs (without (filter (rivals y) us) p) g
          (λ a j. within a ((Contains-without (filter (rivals y) us) p a).0 j).0) v.1 x r k w
      | inr v ↦ elim v [
        | inl j ↦ chosen_calm xs (without (y ∷ []) p) g
            (λ a q. within a ((Contains-without (y ∷ []) p a).0 q).0) j x r k w
        | inr j ↦ chosen_calm xs p g within j.1 x r k w
      ]
    ]
  ]

  all_held : (g : List ℕ) → all_hold (steps os) g ≡ true → (x : ℕ) → Contains us x → Held g x
  all_held g t x i = held x g (list_all_true (holds g) (steps os) t (step x)
      (Contains-map (step_of hides covers rivals us) os x (in_order hides us x i)))

  all_held_from : (g : List ℕ) → Within g us → ((x : ℕ) → Contains us x → Held g x)
      → all_hold (steps os) g ≡ true
  all_held_from g within f = list_all_from (holds g) (steps os)
      (λ s i. let w = Contains-map_from (step_of hides covers rivals us) os s i in
      subst (λ z. holds g z ≡ true) (sym w.2)
      (held_from w.0 g within (f w.0 (within_order hides us w.0 w.1))))

  showing_sound : IsRising us → (g : List ℕ) → Contains (showing hides covers rivals us) g
      → IsShowing hides covers rivals us g
  showing_sound form g h =
      let k = (Contains-filter (all_hold (steps os)) (choices (steps os) us) g).0 h in
      let within : Within g us = choice_within (steps os) us g k.0 in
      let calm : (x : ℕ) → Contains g x → ¬ (Hit g x) = λ x i. chosen_calm os us g (λ a j. j) k.0 x
      (in_order hides us x (within x i)) i in
      record {
        rises = choice_rises (steps os) us g form k.0;
        largest = record {
          within = within;
          compatible = λ a b i j. elim (cases_Bool (rivals a b)) [
            | inl y ↦ absurd (calm a i (b, j, y))
            | inr n ↦ n
          ];
          largest = λ a i. elim (all_held g k.1 a i) [ inl w ↦ inl w.0 | inr w ↦ inr w ];
        };
        covered = λ a i y. elim (all_held g k.1 a (within a i)) [
          | inl w ↦ w.1 y
          | inr w ↦ absurd (calm a i w)
        ];
      }

  -- ---- each is chosen

  module _ (g : List ℕ) (w : IsShowing hides covers rivals us g) where
    -- the positions of p that are not among xs are of g
    abbrev Decided : List ℕ → List ℕ → Type 0
    Decided xs p = (a : ℕ) → Contains p a → Contains xs a ⊎ Contains g a

    found : (xs : List ℕ) (p : List ℕ) → IsRising p → Within xs us → Within g p → Decided xs p
        → Contains (choices (steps xs) p) g
    found [] p r all has decided =
        let e : g ≡ p = one_rising nat_cmp nat_cmp_total g p w.rises r
        (λ a. (
          has a,
          λ i. elim (decided a i) [ inl n ↦ absurd (not_Contains-nil a n) | inr j ↦ j ],
        )) in
        subst (Contains (p ∷ [])) (sym e) (Contains-cons_head p [])
    found (x ∷ xs) p r all has decided = elim (cases_Bool (intersects (x ∷ []) p)) [
      | inl y ↦ elim (cases_Bool (is_in g x)) [
        | inl t ↦
            let q = without (filter (rivals x) us) p in
            by_chosen (step x) (steps xs) p y g
            (found xs q (IsStrictlySortedBy-filter nat_cmp
            (λ a. not (is_in (filter (rivals x) us) a)) p r) rest
            (λ a i. (Contains-without (filter (rivals x) us) p a).1 (
              has a i,
              λ j. let v = (Contains-filter (rivals x) us a).0 j in
                  let n = w.largest.compatible x a (from_list g x t) i in let bad = v.1 in
                  absurd cc,
            ))
            (λ a i. elim (decided a ((Contains-without (filter (rivals x) us) p a).0 i).0) [
              | inl j ↦ elim (Contains-cons_cases x xs a j) [
                | inl e ↦ inr (subst (Contains g) (sym e) (from_list g x t))
                | inr k ↦ inl k
              ]
              | inr j ↦ inr j
            ]))
        | inr n ↦
            let q = without (x ∷ []) p in
            by_left (step x) (steps xs) p y g
            (found xs q (IsStrictlySortedBy-filter nat_cmp (λ a. not (is_in (x ∷ []) a)) p r) rest
            (λ a i. (Contains-without (x ∷ []) p a).1 (
              has a i,
              λ j. not_in g x n (elim (Contains-cons_cases x [] a j)
                  [ inl e ↦ subst (Contains g) e i | inr k ↦ absurd (not_Contains-nil a k) ]),
            ))
            (λ a i. let v = (Contains-without (x ∷ []) p a).0 i in elim (decided a v.0) [
              | inl j ↦ elim (Contains-cons_cases x xs a j) [
                | inl e ↦ absurd (v.1 (subst (Contains (x ∷ [])) (sym e) (Contains-cons_head x [])))
                | inr k ↦ inl k
              ]
              | inr j ↦ inr j
            ]))
      ]
      | inr n ↦ subst (λ z. Contains z g) (sym (choices_out (step x) (steps xs) p n))
          (found xs p r rest has (λ a i. elim (decided a i) [
            | inl j ↦ elim (Contains-cons_cases x xs a j) [
              | inl e ↦ let bad = alone_from x p (subst (Contains p) e i) in absurd cc
              | inr k ↦ inl k
            ]
            | inr j ↦ inr j
          ]))
    ]
      where
        rest : Within xs us
        rest = λ a i. all a (Contains-cons_tail x xs a i)

    showing_complete : IsRising us → Contains (showing hides covers rivals us) g
    showing_complete form = (Contains-filter (all_hold (steps os)) (choices (steps os) us) g).1 (
      found os us form (within_order hides us) w.largest.within
          (λ a i. inl (in_order hides us a i)),
      all_held_from g w.largest.within
          (λ x i. elim (w.largest.largest x i) [ inl j ↦ inl (j, w.covered x j) | inr v ↦ inr v ]),
    )

  -- ---- each once

  -- the answers by these steps, in which all hold
  abbrev Told : List ℕ → List ℕ → List (List ℕ)
  Told xs p = filter (all_hold (steps os)) (choices (steps xs) p)

  chosen_has : (x : ℕ) (xs p g : List ℕ) → Contains us x → Within p us
      → Contains (Told xs (without (filter (rivals x) us) p)) g → Contains g x
  chosen_has x xs p g i within h =
      let k = (Contains-filter (all_hold (steps os))
      (choices (steps xs) (without (filter (rivals x) us) p)) g).0 h in
      elim (all_held g k.1 x i) [
        | inl w ↦ w.0
        | inr w ↦
            let there = (Contains-without (filter (rivals x) us) p w.0).0
            (choice_within (steps xs) (without (filter (rivals x) us) p) g k.0 w.0 w.1) in
            absurd (there.1 ((Contains-filter (rivals x) us w.0).1 (within w.0 there.0, w.2)))
      ]

  once_from : (xs p : List ℕ) → Within xs us → Within p us
      → AllPairs (λ g k. g ≢ k) (filter (all_hold (steps os)) (choices (steps xs) p))
  once_from [] p all within = few (all_hold (steps os) p) p
    where
      few : (b : Bool) (g : List ℕ) → AllPairs (λ g k. g ≢ k) (cond b (g ∷ []) [])
      few true g = λ i j d l m. absurd (omega arith)
      few false g = λ i j d l m. absurd (omega arith)
  once_from (x ∷ xs) p all within = elim (cases_Bool (intersects (x ∷ []) p)) [
    | inl y ↦
        let is : Told (x ∷ xs) p ≡ Told xs (first (step x) p) ++ Told xs (second (step x) p) = ap
        (filter (all_hold (steps os))) (choices_in (step x) (steps xs) p y)
        ∙ filter-append (all_hold (steps os)) (choices (steps xs) (first (step x) p))
        (choices (steps xs) (second (step x) p)) in
        let of_a = once_from xs a rest
        (λ c j. within c ((Contains-without (filter (rivals x) us) p c).0 j).0) in
        let of_b = once_from xs b rest (λ c j. within c ((Contains-without (x ∷ []) p c).0 j).0) in
        subst (AllPairs (λ g k. g ≢ k)) (sym is) (elim (cases_Bool (hides x)) [
          | inl h ↦ rw (cond-true (hides x) b a h, cond-true (hides x) a b h)
              (AllPairs-append (λ g k. g ≢ k) (Told xs b) (Told xs a) of_b of_a
              (λ g k i j e. differ k g j i (sym e)))
          | inr h ↦ rw (cond-false (hides x) b a h, cond-false (hides x) a b h)
              (AllPairs-append (λ g k. g ≢ k) (Told xs a) (Told xs b) of_a of_b differ)
        ])
    | inr n ↦ subst (AllPairs (λ g k. g ≢ k))
        (sym (ap (filter (all_hold (steps os))) (choices_out (step x) (steps xs) p n)))
        (once_from xs p rest within)
  ]
    where
      rest : Within xs us
      rest = λ c i. all c (Contains-cons_tail x xs c i)

      -- what is possible once x is chosen, and once it is left out
      a : List ℕ
      a = without (filter (rivals x) us) p

      b : List ℕ
      b = without (x ∷ []) p

      differ : (g k : List ℕ) → Contains (Told xs a) g → Contains (Told xs b) k → g ≢ k
      differ g k i j e =
          let has = chosen_has x xs p g (all x (Contains-cons_head x xs)) within i in
          let of_k = ((Contains-filter (all_hold (steps os)) (choices (steps xs) b) k).0 j).0 in
          ((Contains-without (x ∷ []) p x).0
          (choice_within (steps xs) b k of_k x (subst (λ z. Contains z x) e has))).1
          (Contains-cons_head x [])

-- THE CHOICES among positions
pub showing_all : (hides : ℕ → Bool) (covers rivals : ℕ → ℕ → Bool)
    → ((a b : ℕ) → rivals a b ≡ rivals b a) → ((a : ℕ) → rivals a a ≡ false) → (us : List ℕ)
    → IsRising us → AreShowing hides covers rivals us (showing hides covers rivals us)
showing_all hides covers rivals symmetric alone us form = record {
  exactly = λ g. (
    showing_sound hides covers rivals us form g,
    λ w. showing_complete hides covers rivals us g w form,
  );
  once = once_from hides covers rivals us (hiding_first hides us) us (within_order hides us)
      (λ a i. i);
}
