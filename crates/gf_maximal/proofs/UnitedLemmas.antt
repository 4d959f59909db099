-- Runs of two sets as those of one.
use Rattle.std.proofs.Common.{◌≡◌, ℕ, suc, ◌<◌, ◌≤◌, Bool, true, false, List, [], ◌∷◌, ◌++◌, length}
use Rattle.std.proofs.Common.{map, inl, inr, refl, subst, sym, ap, ◌∙◌, arith, cond, max, nat_le}
use Rattle.std.proofs.Common.{nat_lt}
use Rattle.std.specs.Prelude.{◌⊎◌, ◌↔◌, Contains, filter, not}
use Rattle.std.specs.List.{fold}
use Rattle.std.specs.List.Sorted.{IsNonDecreasingBy}
use Rattle.std.specs.FinMap.{nat_cmp-IsAntisymmetric}
use Rattle.std.specs.Ordering.{nat_cmp}
use Rattle.std.proofs.lemmas.Bool.{cases_Bool}
use Rattle.std.proofs.lemmas.Cmp.{nat_cmp_total}
use Rattle.std.proofs.lemmas.List.Elements.{Contains-append_cases, Contains-append_left}
use Rattle.std.proofs.lemmas.List.Elements.{Contains-append_right}
use Rattle.std.proofs.lemmas.List.Sorted.{Contains-permutation, IsPermutation-sym}
use Rattle.gf_maximal.specs.declared.run.Run.{Run}
use Rattle.std.specs.BTreeSet.{insert_key}
use Rattle.gf_maximal.specs.LargestSets.{IsRising}
use Rattle.gf_base.proofs.RisingLemmas.{rising_nil}
use Rattle.gf_maximal.specs.Growing.{is_in, without, united, common}
use Rattle.gf_maximal.specs.Runs.{members, numbers_of, AreRuns, pushed, single, is_full}
use Rattle.gf_maximal.specs.Runs.{IsGathered}
use Rattle.gf_base.proofs.FilterLemmas.{Contains-filter}
use Rattle.gf_base.proofs.ListLemmas.{Contains-cons_cases, Contains-cons_head, Contains-cons_tail}
use Rattle.gf_base.proofs.ListLemmas.{Contains-map, Contains-map_from, not_Contains-nil}
use Rattle.gf_base.proofs.InsertLemmas.{inserted_all, holds_all}
use Rattle.gf_maximal.proofs.MaximalLemmas.{in_list, from_list, out_of, Contains-without}
use Rattle.gf_maximal.proofs.RunLemmas.{nat_le_true, nat_le_false, nat_lt_true, nat_lt_false}
use Rattle.gf_maximal.proofs.RunLemmas.{nat_lt_from}
use Rattle.gf_maximal.proofs.RunSetLemmas.{In, Has, in_members, in_numbers, of_one, has_one}
use Rattle.gf_maximal.proofs.PutLemmas.{StartAbove}
use Rattle.gf_maximal.proofs.RunSetLemmas.{not_empty, members_are}

pushed_above : (n : ℕ) (rs : List Run) (r : Run) → n < r.start → StartAbove n rs
    → StartAbove n (pushed rs r)
pushed_above n [] r l f p h = elim (Contains-cons_cases r [] p h) [
  | inl e ↦ subst (λ (z : Run). n < z.start) (sym e) l
  | inr i ↦ absurd (not_Contains-nil p i)
]
pushed_above n (q ∷ []) r l f p h = elim (cases_Bool (nat_le r.start q.end)) [
  | inl t ↦ elim (Contains-cons_cases (record { start = q.start; end = max q.end r.end }) [] p
      (rw t at h)) [
        | inl e ↦ subst (λ (z : Run). n < z.start) (sym e) (f q (Contains-cons_head q []))
        | inr i ↦ absurd (not_Contains-nil p i)
      ]
  | inr t ↦ elim (Contains-cons_cases q (r ∷ []) p (rw t at h)) [
    | inl e ↦ f p (subst (Contains (q ∷ [])) (sym e) (Contains-cons_head q []))
    | inr i ↦ elim (Contains-cons_cases r [] p i) [
      | inl e ↦ subst (λ (z : Run). n < z.start) (sym e) l
      | inr j ↦ absurd (not_Contains-nil p j)
    ]
  ]
]
pushed_above n (q ∷ o ∷ os) r l f p h = elim (Contains-cons_cases q (pushed (o ∷ os) r) p h) [
  | inl e ↦ f p (subst (Contains (q ∷ o ∷ os)) (sym e) (Contains-cons_head q (o ∷ os)))
  | inr i ↦ pushed_above n (o ∷ os) r l (λ z j. f z (Contains-cons_tail q (o ∷ os) z j)) p i
]

-- what begins at n or below it
abbrev pub StartUpTo : ℕ → List Run → Type 0
StartUpTo n rs = (q : Run) → Contains rs q → q.start ≤ n

pushed_upto : (rs : List Run) (r : Run) → StartUpTo r.start rs → StartUpTo r.start (pushed rs r)
pushed_upto [] r f p h = elim (Contains-cons_cases r [] p h) [
  | inl e ↦ subst (λ (z : Run). z.start ≤ r.start) (sym e) (omega arith)
  | inr i ↦ absurd (not_Contains-nil p i)
]
pushed_upto (q ∷ []) r f p h = elim (cases_Bool (nat_le r.start q.end)) [
  | inl t ↦ elim (Contains-cons_cases (record { start = q.start; end = max q.end r.end }) [] p
      (rw t at h)) [
        | inl e ↦ subst (λ (z : Run). z.start ≤ r.start) (sym e) (f q (Contains-cons_head q []))
        | inr i ↦ absurd (not_Contains-nil p i)
      ]
  | inr t ↦ elim (Contains-cons_cases q (r ∷ []) p (rw t at h)) [
    | inl e ↦ f p (subst (Contains (q ∷ [])) (sym e) (Contains-cons_head q []))
    | inr i ↦ elim (Contains-cons_cases r [] p i) [
      | inl e ↦ subst (λ (z : Run). z.start ≤ r.start) (sym e) (omega arith)
      | inr j ↦ absurd (not_Contains-nil p j)
    ]
  ]
]
pushed_upto (q ∷ o ∷ os) r f p h = elim (Contains-cons_cases q (pushed (o ∷ os) r) p h) [
  | inl e ↦ f p (subst (Contains (q ∷ o ∷ os)) (sym e) (Contains-cons_head q (o ∷ os)))
  | inr i ↦ pushed_upto (o ∷ os) r (λ z j. f z (Contains-cons_tail q (o ∷ os) z j)) p i
]

pushed_runs : (rs : List Run) (r : Run) → AreRuns rs → r.start < r.end → StartUpTo r.start rs
    → AreRuns (pushed rs r)
pushed_runs [] r w l f = (l, λ p h. absurd (not_Contains-nil p h), tt)
pushed_runs (q ∷ []) r w l f = let v = w.0 in elim (cases_Bool (nat_le r.start q.end)) [
  | inl t ↦ rw t (omega arith, λ p h. absurd (not_Contains-nil p h), tt)
  | inr t ↦ let m = nat_le_false r.start q.end t in rw t (
    v,
    λ p h. elim (Contains-cons_cases r [] p h) [
      | inl e ↦ subst (λ (z : Run). q.end < z.start) (sym e) m
      | inr j ↦ absurd (not_Contains-nil p j)
    ],
    (l, λ p h. absurd (not_Contains-nil p h), tt),
  )
]
pushed_runs (q ∷ o ∷ os) r w l f =
    let deep = pushed_runs (o ∷ os) r w.2 l (λ z j. f z (Contains-cons_tail q (o ∷ os) z j)) in
    let a = w.1 o (Contains-cons_head o os) in
    let b = f o (Contains-cons_tail q (o ∷ os) o (Contains-cons_head o os)) in
    (w.0, pushed_above q.end (o ∷ os) r (omega arith) w.1, deep)

pushed_has : (rs : List Run) (r : Run) → AreRuns rs → r.start < r.end → StartUpTo r.start rs
    → (a : ℕ) → Has (pushed rs r) a ↔ (Has rs a ⊎ In r a)
pushed_has [] r w l f a = (
  λ h. elim h [ inl i ↦ inr i | inr i ↦ absurd i ],
  λ h. elim h [ inl i ↦ absurd i | inr i ↦ inl i ],
)
pushed_has (q ∷ []) r w l f a = let v = w.0 in let u = f q (Contains-cons_head q []) in
    elim (cases_Bool (nat_le r.start q.end)) [
      | inl t ↦ let m = nat_le_true r.start q.end t in rw t (
        λ h. elim h [
          | inl i ↦ let x = i.0 in let y = i.1 in elim (cases_Bool (nat_lt a q.end)) [
            | inl z ↦ inl (inl (x, nat_lt_true a q.end z))
            | inr z ↦ let k = nat_lt_false a q.end z in inr (omega arith, omega arith)
          ]
          | inr i ↦ absurd i
        ],
        λ h. elim h [
          | inl i ↦ elim i [
            | inl j ↦ let x = j.0 in let y = j.1 in inl (x, omega arith)
            | inr j ↦ absurd j
          ]
          | inr i ↦ let x = i.0 in let y = i.1 in inl (omega arith, omega arith)
        ],
      )
      | inr t ↦ rw t (
        λ h. elim h [ inl i ↦ inl (inl i) | inr i ↦ elim i [ inl j ↦ inr j | inr j ↦ absurd j ] ],
        λ h. elim h [ inl i ↦ elim i [ inl j ↦ inl j | inr j ↦ absurd j ] | inr i ↦ inr (inl i) ],
      )
    ]
pushed_has (q ∷ o ∷ os) r w l f a =
    let deep = pushed_has (o ∷ os) r w.2 l (λ z j. f z (Contains-cons_tail q (o ∷ os) z j)) a in (
      λ h. elim h [
        | inl i ↦ inl (inl i)
        | inr i ↦ elim (deep.0 i) [ inl j ↦ inl (inr j) | inr j ↦ inr j ]
      ],
      λ h. elim h [
        | inl i ↦ elim i [ inl j ↦ inl j | inr j ↦ inr (deep.1 (inl j)) ]
        | inr i ↦ inr (deep.1 (inr i))
      ],
    )

-- ---- one behind the other

abbrev Starts : Run → ℕ
Starts r = r.start

head_first : (r : Run) (rs : List Run) → IsNonDecreasingBy Starts (r ∷ rs) → (q : Run)
    → Contains rs q → r.start ≤ q.start
head_first r rs f q (k, l, e) = subst (λ (z : Run). r.start ≤ z.start) e
    (f 0 (suc k) q (omega arith) (omega arith))

tail_rises : (r : Run) (rs : List Run) → IsNonDecreasingBy Starts (r ∷ rs)
    → IsNonDecreasingBy Starts rs
tail_rises r rs f i j d l m = f (suc i) (suc j) d (omega arith) (omega arith)

abbrev AreFull : List Run → Type 0
AreFull rs = (q : Run) → Contains rs q → q.start < q.end

abbrev AllUpTo : List Run → List Run → Type 0
AllUpTo rs qs = (r q : Run) → Contains rs r → Contains qs q → r.start ≤ q.start

made_runs : (qs rs : List Run) → AreFull qs → IsNonDecreasingBy Starts qs → AreRuns rs
    → AllUpTo rs qs → AreRuns (fold pushed rs qs)
    × ((a : ℕ) → Has (fold pushed rs qs) a ↔ (Has rs a ⊎ Has qs a))
made_runs [] rs l n w f = (w, λ a. (λ h. inl h, λ h. elim h [ inl i ↦ i | inr i ↦ absurd i ]))
made_runs (q ∷ qs) rs l n w f =
    let upto : StartUpTo q.start rs = λ r h. f r q h (Contains-cons_head q qs) in
    let full = l q (Contains-cons_head q qs) in
    let deep = made_runs qs (pushed rs q) (λ p h. l p (Contains-cons_tail q qs p h))
    (tail_rises q qs n) (pushed_runs rs q w full upto)
    (λ r p h i. let a = pushed_upto rs q upto r h in let b = head_first q qs n p i in
    omega arith) in (
      deep.0,
      λ a. let one = pushed_has rs q w full upto a in (
        λ h. elim ((deep.1 a).0 h) [
          | inl i ↦ elim (one.0 i) [ inl j ↦ inl j | inr j ↦ inr (inl j) ]
          | inr i ↦ inr (inr i)
        ],
        λ h. (deep.1 a).1 (elim h [
          | inl i ↦ inl (one.1 (inl i))
          | inr i ↦ elim i [ inl j ↦ inl (one.1 (inr j)) | inr j ↦ inr j ]
        ]),
      ),
    )

gathered_runs : (rs us : List Run) → AreFull rs → IsGathered rs us
    → AreRuns us × ((a : ℕ) → Has us a ↔ Has rs a)
gathered_runs rs us full u =
    let there : (q : Run) → Contains u.all q → Contains rs q = λ q h. Contains-permutation u.all rs
    q (IsPermutation-sym rs u.all u.moved) h in
    let m = made_runs u.all [] (λ q h. full q (there q h)) u.rises tt
    (λ r q h i. absurd (not_Contains-nil r h)) in (
      subst AreRuns (sym u.made) m.0,
      λ a. (
        λ h. elim ((m.1 a).0 (subst (λ z. Has z a) u.made h)) [
          | inl i ↦ absurd i
          | inr i ↦ let o = of_one u.all a i in has_one rs o.0 a (there o.0 o.1) o.2
        ],
        λ h. let o = of_one rs a h in
            subst (λ z. Has z a) (sym u.made)
            ((m.1 a).1 (inr (has_one u.all o.0 a (Contains-permutation rs u.all o.0 u.moved o.1)
            o.2))),
      ),
    )

united_runs : (rs qs us : List Run) → AreRuns rs → AreRuns qs → IsGathered (rs ++ qs) us
    → AreRuns us × ((a : ℕ) → Has us a ↔ (Has rs a ⊎ Has qs a))
united_runs rs qs us w v u =
    let full : AreFull (rs ++ qs) = λ q h. elim (Contains-append_cases rs qs q h) [
      | inl i ↦ not_empty rs w q i
      | inr i ↦ not_empty qs v q i
    ] in
    let m = gathered_runs (rs ++ qs) us full u in (
      m.0,
      λ a. (
        λ h. let o = of_one (rs ++ qs) a ((m.1 a).0 h) in
            elim (Contains-append_cases rs qs o.0 o.1) [
              | inl j ↦ inl (has_one rs o.0 a j o.2)
              | inr j ↦ inr (has_one qs o.0 a j o.2)
            ],
        λ h. (m.1 a).1 (elim h [
          | inl i ↦ let o = of_one rs a i in
              has_one (rs ++ qs) o.0 a (Contains-append_left rs qs o.0 o.1) o.2
          | inr i ↦ let o = of_one qs a i in
              has_one (rs ++ qs) o.0 a (Contains-append_right rs qs o.0 o.1) o.2
        ]),
      ),
    )

-- ---- the runs of numbers in any order

full_singles : (ns : List ℕ) → AreFull (map single ns)
full_singles ns q h = let w = Contains-map_from single ns q h in
    subst (λ (z : Run). z.start < z.end) (sym w.2) (omega arith)

pub singles_kept : (ns : List ℕ) (us : List Run) → IsGathered (map single ns) us → AreRuns us
singles_kept ns us u = (gathered_runs (map single ns) us (full_singles ns) u).0

pub singles_told : (ns : List ℕ) (us : List Run) → IsGathered (map single ns) us
    → members us ≡ fold (insert_key nat_cmp) [] ns
singles_told ns us u =
    let m = gathered_runs (map single ns) us (full_singles ns) u in
    members_are us (fold (insert_key nat_cmp) [] ns) m.0
    (inserted_all nat_cmp nat_cmp_total nat_cmp-IsAntisymmetric ns []
    (rising_nil nat_cmp nat_cmp_total)) (λ a. (
      λ h.
          let o = of_one (map single ns) a ((m.1 a).0 h) in
          let w = Contains-map_from single ns o.0 o.1 in
          let i : In (single w.0) a = subst (λ (z : Run). In z a) w.2 o.2 in
          let low = i.0 in let high = i.1 in
          let e : w.0 ≡ a = omega arith in
          (holds_all nat_cmp nat_cmp_total nat_cmp-IsAntisymmetric ns [] a).1
          (inr (subst (Contains ns) e w.1)),
      λ h. elim ((holds_all nat_cmp nat_cmp_total nat_cmp-IsAntisymmetric ns [] a).0 h) [
        | inl n ↦ absurd (not_Contains-nil a n)
        | inr i ↦ (m.1 a).1 (has_one (map single ns) (single a) a (Contains-map single ns a i)
            (omega arith, omega arith))
      ],
    ))

-- ---- the numbers of runs that may be empty and stand in any order

full_kept : (rs : List Run) → AreFull (filter is_full rs)
full_kept rs q h = nat_lt_true q.start q.end ((Contains-filter is_full rs q).0 h).1

pub full_runs : (rs us : List Run) → IsGathered (filter is_full rs) us → AreRuns us
full_runs rs us u = (gathered_runs (filter is_full rs) us (full_kept rs) u).0

-- a run of rs has a
abbrev pub OneHas : List Run → ℕ → Type 0
OneHas rs a = (r : Run) × Contains rs r × Contains (numbers_of r) a

has_of_full : (rs : List Run) (a : ℕ) → Has (filter is_full rs) a ↔ Has rs a
has_of_full rs a = (
  λ h. let o = of_one (filter is_full rs) a h in
      has_one rs o.0 a ((Contains-filter is_full rs o.0).0 o.1).0 o.2,
  λ h. let o = of_one rs a h in let i = o.2.0 in let j = o.2.1 in
      has_one (filter is_full rs) o.0 a ((Contains-filter is_full rs o.0).1
      (o.1, nat_lt_from o.0.start o.0.end (omega arith))) o.2,
)

pub full_told : (rs us : List Run) → IsGathered (filter is_full rs) us
    → members us ≡ fold (insert_key nat_cmp) [] (members rs)
full_told rs us u =
    let m = gathered_runs (filter is_full rs) us (full_kept rs) u in
    members_are us (fold (insert_key nat_cmp) [] (members rs)) m.0
    (inserted_all nat_cmp nat_cmp_total nat_cmp-IsAntisymmetric (members rs) []
    (rising_nil nat_cmp nat_cmp_total)) (λ a. (
      λ h. (holds_all nat_cmp nat_cmp_total nat_cmp-IsAntisymmetric (members rs) [] a).1
          (inr ((in_members rs a).1 ((has_of_full rs a).0 ((m.1 a).0 h)))),
      λ h. elim ((holds_all nat_cmp nat_cmp_total nat_cmp-IsAntisymmetric (members rs) [] a).0 h) [
        | inl n ↦ absurd (not_Contains-nil a n)
        | inr i ↦ (m.1 a).1 ((has_of_full rs a).1 ((in_members rs a).0 i))
      ],
    ))

pub full_has : (rs us : List Run) → IsGathered (filter is_full rs) us → (a : ℕ)
    → Contains (members us) a ↔ OneHas rs a
full_has rs us u a =
    let m = gathered_runs (filter is_full rs) us (full_kept rs) u in (
      λ h. let o = of_one rs a ((has_of_full rs a).0 ((m.1 a).0 ((in_members us a).0 h))) in
          (o.0, o.1, (in_numbers o.0 a).1 o.2),
      λ w. (in_members us a).1 ((m.1 a).1 ((has_of_full rs a).1
          (has_one rs w.0 a w.1 ((in_numbers w.0 a).0 w.2)))),
    )

-- ---- the union of lists

pub Contains-united : (g k : List ℕ) (a : ℕ)
    → Contains (united g k) a ↔ (Contains g a ⊎ Contains k a)
Contains-united g k a = (
  λ h. elim ((holds_all nat_cmp nat_cmp_total nat_cmp-IsAntisymmetric k
      (fold (insert_key nat_cmp) [] g) a).0 h) [
        | inl i ↦ elim ((holds_all nat_cmp nat_cmp_total nat_cmp-IsAntisymmetric g [] a).0 i) [
          | inl n ↦ absurd (not_Contains-nil a n)
          | inr j ↦ inl j
        ]
        | inr i ↦ inr i
      ],
  λ h. (holds_all nat_cmp nat_cmp_total nat_cmp-IsAntisymmetric k (fold (insert_key nat_cmp) [] g)
      a).1 (elim h [
        | inl i ↦ inl ((holds_all nat_cmp nat_cmp_total nat_cmp-IsAntisymmetric g [] a).1 (inr i))
        | inr i ↦ inr i
      ]),
)

pub united_rises : (g k : List ℕ) → IsRising (united g k)
united_rises g k = inserted_all nat_cmp nat_cmp_total nat_cmp-IsAntisymmetric k
    (fold (insert_key nat_cmp) [] g) (inserted_all nat_cmp nat_cmp_total nat_cmp-IsAntisymmetric g
    [] (rising_nil nat_cmp nat_cmp_total))

-- ---- what calls leave

pub united_kept : (rs qs rs2 qs2 us : List Run) → rs2 ≡ rs → qs2 ≡ qs → AreRuns rs → AreRuns qs
    → IsGathered (rs2 ++ qs2) us → AreRuns us
united_kept rs qs rs2 qs2 us e f w v u = (united_runs rs2 qs2 us (subst AreRuns (sym e) w)
    (subst AreRuns (sym f) v) u).0

pub united_told : (rs qs rs2 qs2 us : List Run) (g k : List ℕ) → rs2 ≡ rs → qs2 ≡ qs → AreRuns rs
    → AreRuns qs → members rs ≡ g → members qs ≡ k → IsGathered (rs2 ++ qs2) us
    → members us ≡ united g k
united_told rs qs rs2 qs2 us g k e f w v i j u =
    let m = united_runs rs2 qs2 us (subst AreRuns (sym e) w) (subst AreRuns (sym f) v) u in
    let all : (a : ℕ) → Contains (united (members rs) (members qs)) a
    ↔ (Contains (members rs) a ⊎ Contains (members qs) a) = λ a. Contains-united (members rs)
    (members qs) a in
    rw (← i, ← j) (members_are us (united (members rs) (members qs)) m.0
    (united_rises (members rs) (members qs)) (λ a. (
      λ h. (all a).1 (elim ((m.1 a).0 h) [
        | inl x ↦ inl ((in_members rs a).1 (subst (λ z. Has z a) e x))
        | inr x ↦ inr ((in_members qs a).1 (subst (λ z. Has z a) f x))
      ]),
      λ h. (m.1 a).1 (elim ((all a).0 h) [
        | inl x ↦ inl (subst (λ z. Has z a) (sym e) ((in_members rs a).0 x))
        | inr x ↦ inr (subst (λ z. Has z a) (sym f) ((in_members qs a).0 x))
      ]),
    )))

filter_alike : (p q : ℕ → Bool) (g : List ℕ) → ((a : ℕ) → Contains g a → p a ≡ q a)
    → filter p g ≡ filter q g
filter_alike p q [] f = refl
filter_alike p q (a ∷ g) f =
    ap (λ z. cond z (a ∷ filter p g) (filter p g)) (f a (Contains-cons_head a g))
    ∙ ap (λ z. cond (q a) (a ∷ z) z) (filter_alike p q g (λ b h. f b (Contains-cons_tail a g b h)))

pub common_is : (d g : List ℕ) → without (without d g) g ≡ common d g
common_is d g = filter_alike (λ a. not (is_in (without d g) a)) (is_in d) g
    (λ a h. elim (cases_Bool (is_in d a)) [
      | inl t ↦ let n : is_in (without d g) a ≡ false = out_of (without d g) a
          (λ i. ((Contains-without d g a).0 i).1 (from_list d a t)) in rw (n, t) refl
      | inr t ↦ let n : is_in (without d g) a ≡ true = in_list (without d g) a
          ((Contains-without d g a).1 (h, λ i. let k = in_list d a i in absurd cc)) in
          rw (n, t) refl
    ])

pub none_told : (rs : List Run) (g : List ℕ) → AreRuns rs → members rs ≡ g
    → (length rs ≡ 0) ↔ (g ≡ [])
none_told [] g w e = (λ h. sym e, λ h. refl)
none_told (r ∷ rs) g w e = (
  λ h. absurd (omega arith),
  λ h. absurd (not_Contains-nil r.start
      (subst (λ z. Contains z r.start) (e ∙ h)
      ((in_members (r ∷ rs) r.start).1 (inl (omega arith, w.0))))),
)
