-- Runs as sets of numbers.
use Rattle.std.proofs.Common.{◌≡◌, ℕ, zero, suc, ◌<◌, ◌≤◌}
use Rattle.std.proofs.Common.{◌+◌, ◌-◌, Bool, true, false, List, [], ◌∷◌, ◌++◌, inl, inr, refl}
use Rattle.std.proofs.Common.{subst, sym, arith, nat_le, nat_lt}
use Rattle.std.specs.Prelude.{◌⊎◌, ◌↔◌, Contains}
use Rattle.std.specs.Cmp.{nat_cmp_is}
use Rattle.std.specs.Ordering.{nat_cmp}
use Rattle.std.specs.declared.cmp.Ordering.TheVariants.{Less}
use Rattle.std.specs.List.{range_with_len, list_any, list_all}
use Rattle.std.proofs.lemmas.Bool.{cases_Bool, cond-true, cond-false, and_parts, and_from, or_cases}
use Rattle.std.proofs.lemmas.Bool.{or_left, or_right}
use Rattle.std.proofs.lemmas.Cmp.{nat_cmp_total}
use Rattle.std.proofs.lemmas.List.Elements.{All-weaker, All-contains_itself, Contains-append_cases}
use Rattle.std.proofs.lemmas.List.Elements.{Contains-append_left, Contains-append_right}
use Rattle.std.proofs.lemmas.List.Kept.{IsStrictlySortedBy-filter}
use Rattle.gf_maximal.specs.declared.run.Run.{Run}
use Rattle.gf_maximal.specs.Growing.{is_in, intersects, without, is_within}
use Rattle.gf_maximal.specs.Runs.{numbers_of, members, AreRuns, after, is_inside}
use Rattle.gf_maximal.specs.Runs.{first_touches, first_covers, touches, covers, piece, cut, all_cut}
use Rattle.gf_maximal.specs.LargestSets.{IsRising}
use Rattle.gf_base.proofs.ListLemmas.{Contains-cons_cases, Contains-cons_head, Contains-cons_tail}
use Rattle.gf_base.proofs.ListLemmas.{not_Contains-nil}
use Rattle.gf_base.proofs.FilterLemmas.{list_any_true, list_any_from, list_all_true, list_all_from}
use Rattle.gf_maximal.proofs.MaximalLemmas.{in_list, from_list, Contains-without}
use Rattle.gf_base.proofs.RisingLemmas.{one_rising, rising_cons}
use Rattle.gf_maximal.proofs.RunLemmas.{nat_le_true, nat_le_from, nat_le_false, nat_lt_true}
use Rattle.gf_maximal.proofs.RunLemmas.{nat_lt_from, nat_lt_false}

-- a is in the run
abbrev pub In : Run → ℕ → Type 0
In r a = (r.start ≤ a) × (a < r.end)

-- a is in one of the runs
abbrev pub Has : List Run → ℕ → Type 0
Has [] a = ⊥
Has (r ∷ rs) a = In r a ⊎ Has rs a

pub in_range : (n b a : ℕ) → Contains (range_with_len b n) a ↔ ((b ≤ a) × (a < b + n))
in_range zero b a = (
  λ h. absurd (not_Contains-nil a h),
  λ h. let l = h.0 in let m = h.1 in absurd (omega arith),
)
in_range (suc n) b a = (
  λ h. elim (Contains-cons_cases b (range_with_len (b + 1) n) a h) [
    | inl e ↦ (omega arith, omega arith)
    | inr i ↦ let w = (in_range n (b + 1) a).0 i in let l = w.0 in let m = w.1 in
        (omega arith, omega arith)
  ],
  λ h. let l = h.0 in let m = h.1 in elim (cases_Bool (nat_lt b a)) [
    | inl t ↦ let k = nat_lt_true b a t in Contains-cons_tail b (range_with_len (b + 1) n) a
        ((in_range n (b + 1) a).1 (omega arith, omega arith))
    | inr f ↦ let k = nat_lt_false b a f in let e : b ≡ a = omega arith in
        subst (Contains (b ∷ range_with_len (b + 1) n)) e
        (Contains-cons_head b (range_with_len (b + 1) n))
  ],
)

pub in_numbers : (r : Run) (a : ℕ) → Contains (numbers_of r) a ↔ In r a
in_numbers r a = (
  λ h. let w = (in_range (r.end - r.start) r.start a).0 h in let l = w.0 in let m = w.1 in
      (l, omega arith),
  λ h. let l = h.0 in let m = h.1 in (in_range (r.end - r.start) r.start a).1 (l, omega arith),
)

pub in_members : (rs : List Run) (a : ℕ) → Contains (members rs) a ↔ Has rs a
in_members [] a = (λ h. not_Contains-nil a h, λ h. absurd h)
in_members (r ∷ rs) a = (
  λ h. elim (Contains-append_cases (numbers_of r) (members rs) a h) [
    | inl i ↦ inl ((in_numbers r a).0 i)
    | inr i ↦ inr ((in_members rs a).0 i)
  ],
  λ h. elim h [
    | inl i ↦ Contains-append_left (numbers_of r) (members rs) a ((in_numbers r a).1 i)
    | inr i ↦ Contains-append_right (numbers_of r) (members rs) a ((in_members rs a).1 i)
  ],
)

-- ---- runs rise

pub not_empty : (rs : List Run) → AreRuns rs → (q : Run) → Contains rs q → q.start < q.end
not_empty [] w q h = absurd (not_Contains-nil q h)
not_empty (r ∷ rs) w q h = elim (Contains-cons_cases r rs q h) [
  | inl e ↦ subst (λ (z : Run). z.start < z.end) (sym e) w.0
  | inr i ↦ not_empty rs w.2 q i
]

pub of_one : (rs : List Run) (a : ℕ) → Has rs a → (q : Run) × Contains rs q × In q a
of_one [] a h = absurd h
of_one (r ∷ rs) a (inl i) = (r, Contains-cons_head r rs, i)
of_one (r ∷ rs) a (inr i) = let w = of_one rs a i in (w.0, Contains-cons_tail r rs w.0 w.1, w.2)

pub has_one : (rs : List Run) (q : Run) (a : ℕ) → Contains rs q → In q a → Has rs a
has_one [] q a h i = not_Contains-nil q h
has_one (r ∷ rs) q a h i = elim (Contains-cons_cases r rs q h) [
  | inl e ↦ inl (subst (λ z. In z a) e i)
  | inr j ↦ inr (has_one rs q a j i)
]

-- what later runs hold is above the end of the first
pub above_first : (r : Run) (rs : List Run) → AreRuns (r ∷ rs) → (a : ℕ) → Has rs a → r.end < a
above_first r rs w a h = let o = of_one rs a h in let l = w.1 o.0 o.1 in let m = o.2.0 in
    omega arith

pub range_rises : (n b : ℕ) (ys : List ℕ) → IsRising ys → ((y : ℕ) → Contains ys y → b + n ≤ y)
    → IsRising (range_with_len b n ++ ys)
range_rises zero b ys r f = r
range_rises (suc n) b ys r f =
    let rest = range_with_len (b + 1) n ++ ys in
    let up : (y : ℕ) → Contains rest y
    → nat_cmp b y ≡ Less = λ y h.
    sym (nat_cmp_is b y Less (elim (Contains-append_cases (range_with_len (b + 1) n) ys y h) [
      | inl i ↦ let w = (in_range n (b + 1) y).0 i in let l = w.0 in omega arith
      | inr i ↦ let l = f y i in omega arith
    ])) in
    rising_cons nat_cmp nat_cmp_total b rest (All-weaker (Contains rest) (λ y. nat_cmp b y ≡ Less)
    up rest (All-contains_itself rest))
    (range_rises n (b + 1) ys r (λ y h. let l = f y h in omega arith))

pub members_rise : (rs : List Run) → AreRuns rs → IsRising (members rs)
unfolding Rattle.std.specs.List.Sorted.IsStrictlySortedBy
members_rise [] w = tt
members_rise (r ∷ rs) w = range_rises (r.end - r.start) r.start (members rs) (members_rise rs w.2)
    (λ y h. let l = above_first r rs w y ((in_members rs y).0 h) in let m = w.0 in omega arith)

-- runs with the elements of a rising list have it as their numbers
pub members_are : (rs : List Run) (g : List ℕ) → AreRuns rs → IsRising g
    → ((a : ℕ) → Has rs a ↔ Contains g a) → members rs ≡ g
members_are rs g w r f = one_rising nat_cmp nat_cmp_total (members rs) g (members_rise rs w) r
    (λ a. (λ h. (f a).0 ((in_members rs a).0 h), λ h. (in_members rs a).1 ((f a).1 h)))

AreRuns-append : (ps qs : List Run) → AreRuns ps → AreRuns qs
    → ((p q : Run) → Contains ps p → Contains qs q → p.end < q.start) → AreRuns (ps ++ qs)
AreRuns-append [] qs v w f = w
AreRuns-append (p ∷ ps) qs v w f = (
  v.0,
  λ q h. elim (Contains-append_cases ps qs q h) [
    | inl i ↦ v.1 q i
    | inr i ↦ f p q (Contains-cons_head p ps) i
  ],
  AreRuns-append ps qs v.2 w (λ a b i j. f a b (Contains-cons_tail p ps a i) j),
)

Has-append : (ps qs : List Run) (a : ℕ) → Has (ps ++ qs) a ↔ (Has ps a ⊎ Has qs a)
Has-append [] qs a = (λ h. inr h, λ h. elim h [ inl i ↦ absurd i | inr i ↦ i ])
Has-append (p ∷ ps) qs a = (
  λ h. elim h [
    | inl i ↦ inl (inl i)
    | inr i ↦ elim ((Has-append ps qs a).0 i) [ inl j ↦ inl (inr j) | inr j ↦ inr j ]
  ],
  λ h. elim h [
    | inl i ↦ elim i [ inl j ↦ inl j | inr j ↦ inr ((Has-append ps qs a).1 (inl j)) ]
    | inr i ↦ inr ((Has-append ps qs a).1 (inr i))
  ],
)

-- ---- after a number

pub after_has : (n : ℕ) (rs : List Run) (a : ℕ) → n ≤ a → Has (after n rs) a ↔ Has rs a
after_has n [] a l = (λ h. h, λ h. h)
after_has n (r ∷ rs) a l = elim (cases_Bool (nat_le r.end n)) [
  | inl t ↦ let m = nat_le_true r.end n t in
      rw (cond-true (nat_le r.end n) (after n rs) (r ∷ rs) t) (
        λ h. inr ((after_has n rs a l).0 h),
        λ h. elim h [
          | inl i ↦ let k = i.1 in absurd (omega arith)
          | inr i ↦ (after_has n rs a l).1 i
        ],
      )
  | inr f ↦ rw (cond-false (nat_le r.end n) (after n rs) (r ∷ rs) f) (λ h. h, λ h. h)
]

pub after_runs : (n : ℕ) (rs : List Run) → AreRuns rs → AreRuns (after n rs)
after_runs n [] w = tt
after_runs n (r ∷ rs) w = elim (cases_Bool (nat_le r.end n)) [
  | inl t ↦ rw (cond-true (nat_le r.end n) (after n rs) (r ∷ rs) t) (after_runs n rs w.2)
  | inr f ↦ rw (cond-false (nat_le r.end n) (after n rs) (r ∷ rs) f) w
]

pub after_ends : (n : ℕ) (rs : List Run) → AreRuns rs → (q : Run) → Contains (after n rs) q
    → n < q.end
after_ends n [] w q h = absurd (not_Contains-nil q h)
after_ends n (r ∷ rs) w q h = elim (cases_Bool (nat_le r.end n)) [
  | inl t ↦ after_ends n rs w.2 q (rw (cond-true (nat_le r.end n) (after n rs) (r ∷ rs) t) at h)
  | inr f ↦ let l = nat_le_false r.end n f in
      elim (Contains-cons_cases r rs q (rw (cond-false (nat_le r.end n) (after n rs) (r ∷ rs) f)
      at h)) [
        | inl e ↦ subst (λ (z : Run). n < z.end) (sym e) l
        | inr i ↦ let m = w.1 q i in let k = not_empty rs w.2 q i in omega arith
      ]
]

-- ---- what is left of a run

pub piece_has : (r : Run) (a : ℕ) → Has (piece r) a ↔ In r a
piece_has r a = elim (cases_Bool (nat_lt r.start r.end)) [
  | inl t ↦ rw (cond-true (nat_lt r.start r.end) (r ∷ []) [] t) (
    λ h. elim h [ inl i ↦ i | inr i ↦ absurd i ],
    λ h. inl h,
  )
  | inr f ↦ let l = nat_lt_false r.start r.end f in
      rw (cond-false (nat_lt r.start r.end) (r ∷ []) [] f) (
        λ h. absurd h,
        λ h. let m = h.0 in let k = h.1 in omega arith,
      )
]

pub piece_runs : (r : Run) → AreRuns (piece r)
piece_runs r = elim (cases_Bool (nat_lt r.start r.end)) [
  | inl t ↦ rw (cond-true (nat_lt r.start r.end) (r ∷ []) [] t) (
    nat_lt_true r.start r.end t,
    λ q h. absurd (not_Contains-nil q h),
    tt,
  )
  | inr f ↦ rw (cond-false (nat_lt r.start r.end) (r ∷ []) [] f) tt
]

piece_one : (r p : Run) → Contains (piece r) p → p ≡ r
piece_one r p h = elim (cases_Bool (nat_lt r.start r.end)) [
  | inl t ↦ elim (Contains-cons_cases r [] p (rw (cond-true (nat_lt r.start r.end) (r ∷ []) [] t)
      at h)) [ inl e ↦ e | inr i ↦ absurd (not_Contains-nil p i) ]
  | inr f ↦ absurd (not_Contains-nil p (rw (cond-false (nat_lt r.start r.end) (r ∷ []) [] f) at h))
]

-- the runs end after n
abbrev EndAfter : ℕ → List Run → Type 0
EndAfter n qs = (q : Run) → Contains qs q → n < q.end

later : (q : Run) (qs : List Run) → AreRuns (q ∷ qs) → EndAfter q.end qs
later q qs w p h = let l = w.1 p h in let m = not_empty qs w.2 p h in omega arith

abbrev front : Run → Run → Run
front r q = record { start = r.start; end = q.start }

abbrev pub rest : Run → Run → Run
rest r q = record { start = q.end; end = r.end }

pub cut_has : (qs : List Run) (r : Run) → AreRuns qs → EndAfter r.start qs → (a : ℕ)
    → Has (cut r qs) a ↔ (In r a × (¬ (Has qs a)))
cut_has [] r w f a = (λ h. ((piece_has r a).0 h, λ i. i), λ h. (piece_has r a).1 h.0)
cut_has (q ∷ qs) r w f a = elim (cases_Bool (nat_le r.end q.start)) [
  | inl t ↦ let l = nat_le_true r.end q.start t in
      rw (cond-true (nat_le r.end q.start) (piece r) (piece (front r q) ++ cut (rest r q) qs) t) (
        λ h. let i = (piece_has r a).0 h in let m = i.1 in let v = w.0 in (
          i,
          λ k. elim k [
            | inl j ↦ let n = j.0 in omega arith
            | inr j ↦ let n = above_first q qs w a j in omega arith
          ],
        ),
        λ h. (piece_has r a).1 h.0,
      )
  | inr e ↦
      let l = nat_le_false r.end q.start e in
      let v = w.0 in
      let u = f q (Contains-cons_head q qs) in
      let deeper = cut_has qs (rest r q) w.2 (later q qs w) a in
      rw (cond-false (nat_le r.end q.start) (piece r) (piece (front r q) ++ cut (rest r q) qs) e) (
        λ h. elim ((Has-append (piece (front r q)) (cut (rest r q) qs) a).0 h) [
          | inl i ↦ let j = (piece_has (front r q) a).0 i in let m = j.0 in let n = j.1 in (
            (m, omega arith),
            λ k. elim k [
              | inl o ↦ let x = o.0 in omega arith
              | inr o ↦ let x = above_first q qs w a o in omega arith
            ],
          )
          | inr i ↦ let j = deeper.0 i in let m = j.0.0 in let n = j.0.1 in (
            (omega arith, n),
            λ k. elim k [
              | inl o ↦ let x = o.1 in omega arith
              | inr o ↦ j.1 o
            ],
          )
        ],
        λ h. let m = h.0.0 in let n = h.0.1 in
            (Has-append (piece (front r q)) (cut (rest r q) qs) a).1
            (elim (cases_Bool (nat_lt a q.start)) [
              | inl t ↦ inl ((piece_has (front r q) a).1 (m, nat_lt_true a q.start t))
              | inr t ↦ let x = nat_lt_false a q.start t in elim (cases_Bool (nat_lt a q.end)) [
                | inl y ↦ absurd (h.1 (inl (x, nat_lt_true a q.end y)))
                | inr y ↦ inr (deeper.1 ((nat_lt_false a q.end y, n), λ k. h.1 (inr k)))
              ]
            ]),
      )
]

pub cut_within : (qs : List Run) (r : Run) → AreRuns qs → EndAfter r.start qs → (p : Run)
    → Contains (cut r qs) p → (r.start ≤ p.start) × (p.end ≤ r.end)
cut_within [] r w f p h = let e = piece_one r p h in
    subst (λ (z : Run). (r.start ≤ z.start) × (z.end ≤ r.end)) (sym e) (omega arith, omega arith)
cut_within (q ∷ qs) r w f p h = elim (cases_Bool (nat_le r.end q.start)) [
  | inl t ↦
      let e = piece_one r p (rw (cond-true (nat_le r.end q.start) (piece r)
      (piece (front r q) ++ cut (rest r q) qs) t) at h) in
      subst (λ (z : Run). (r.start ≤ z.start) × (z.end ≤ r.end)) (sym e) (omega arith, omega arith)
  | inr e ↦
      let l = nat_le_false r.end q.start e in
      let u = f q (Contains-cons_head q qs) in
      elim (Contains-append_cases (piece (front r q)) (cut (rest r q) qs) p
      (rw (cond-false (nat_le r.end q.start) (piece r) (piece (front r q) ++ cut (rest r q) qs) e)
      at h)) [
        | inl i ↦ subst (λ (z : Run). (r.start ≤ z.start) × (z.end ≤ r.end))
            (sym (piece_one (front r q) p i)) (omega arith, omega arith)
        | inr i ↦ let d = cut_within qs (rest r q) w.2 (later q qs w) p i in let m = d.0 in
            (omega arith, d.1)
      ]
]

pub cut_runs : (qs : List Run) (r : Run) → AreRuns qs → EndAfter r.start qs → AreRuns (cut r qs)
cut_runs [] r w f = piece_runs r
cut_runs (q ∷ qs) r w f = elim (cases_Bool (nat_le r.end q.start)) [
  | inl t ↦ rw (cond-true (nat_le r.end q.start) (piece r) (piece (front r q) ++ cut (rest r q) qs)
      t) (piece_runs r)
  | inr e ↦ rw (cond-false (nat_le r.end q.start) (piece r) (piece (front r q) ++ cut (rest r q) qs)
      e) (
      AreRuns-append (piece (front r q)) (cut (rest r q) qs) (piece_runs (front r q))
      (cut_runs qs (rest r q) w.2 (later q qs w))
      (λ a b i j.
      let d = cut_within qs (rest r q) w.2 (later q qs w) b j in
      let m = d.0 in let v = w.0 in
      subst (λ (z : Run). z.end < b.start) (sym (piece_one (front r q) a i)) (omega arith)))
]

-- ---- of all runs

all_within : (qs rs : List Run) → AreRuns qs → (p : Run) → Contains (all_cut qs rs) p
    → (r : Run) × Contains rs r × (r.start ≤ p.start)
all_within qs [] w p h = absurd (not_Contains-nil p h)
all_within qs (r ∷ rs) w p h = elim (Contains-append_cases (cut r (after r.start qs))
    (all_cut qs rs) p h) [
      | inl i ↦ (
        r,
        Contains-cons_head r rs,
        (cut_within (after r.start qs) r (after_runs r.start qs w) (after_ends r.start qs w) p i).0,
      )
      | inr i ↦ let v = all_within qs rs w p i in (v.0, Contains-cons_tail r rs v.0 v.1, v.2)
    ]

all_cut_runs : (qs rs : List Run) → AreRuns qs → AreRuns rs → AreRuns (all_cut qs rs)
all_cut_runs qs [] w v = tt
all_cut_runs qs (r ∷ rs) w v = AreRuns-append (cut r (after r.start qs)) (all_cut qs rs)
    (cut_runs (after r.start qs) r (after_runs r.start qs w) (after_ends r.start qs w))
    (all_cut_runs qs rs w v.2)
    (λ p q i j.
    let d = (cut_within (after r.start qs) r (after_runs r.start qs w) (after_ends r.start qs w) p
    i).1 in
    let o = all_within qs rs w q j in let l = v.1 o.0 o.1 in let m = o.2 in omega arith)

all_cut_has : (qs rs : List Run) → AreRuns qs → (a : ℕ)
    → Has (all_cut qs rs) a ↔ (Has rs a × (¬ (Has qs a)))
all_cut_has qs [] w a = (λ h. absurd h, λ h. h.0)
all_cut_has qs (r ∷ rs) w a =
    let one = cut_has (after r.start qs) r (after_runs r.start qs w) (after_ends r.start qs w) a in
    let others = all_cut_has qs rs w a in (
      λ h. elim ((Has-append (cut r (after r.start qs)) (all_cut qs rs) a).0 h) [
        | inl i ↦ let k = one.0 i in (inl k.0, λ j. k.1 ((after_has r.start qs a k.0.0).1 j))
        | inr i ↦ let k = others.0 i in (inr k.0, k.1)
      ],
      λ h. (Has-append (cut r (after r.start qs)) (all_cut qs rs) a).1 (elim h.0 [
        | inl i ↦ inl (one.1 (i, λ j. h.1 ((after_has r.start qs a i.0).0 j)))
        | inr i ↦ inr (others.1 (i, h.1))
      ]),
    )

pub cut_is : (qs rs : List Run) → AreRuns qs → AreRuns rs
    → AreRuns (all_cut qs rs) × (members (all_cut qs rs) ≡ without (members qs) (members rs))
cut_is qs rs w v =
    let k = all_cut_runs qs rs w v in (
      k,
      members_are (all_cut qs rs) (without (members qs) (members rs)) k
          (IsStrictlySortedBy-filter nat_cmp _ (members rs) (members_rise rs v)) (λ a. (
            λ h. let o = (all_cut_has qs rs w a).0 h in
                (Contains-without (members qs) (members rs) a).1
                ((in_members rs a).1 o.0, λ i. o.1 ((in_members qs a).0 i)),
            λ h. let o = (Contains-without (members qs) (members rs) a).0 h in
                (all_cut_has qs rs w a).1 (
                  (in_members rs a).0 o.0,
                  λ i. o.1 ((in_members qs a).1 i),
                ),
          )),
    )

-- ---- the tests

pub bool_same : (a b : Bool) → (a ≡ true → b ≡ true) → (b ≡ true → a ≡ true) → a ≡ b
bool_same true b f g = sym (f refl)
bool_same false true f g = g refl
bool_same false false f g = refl

pub inside_true : (r : Run) (a : ℕ) → is_inside r a ≡ true → In r a
inside_true r a t = let p = and_parts (nat_le r.start a) (nat_lt a r.end) t in
    (nat_le_true r.start a p.0, nat_lt_true a r.end p.1)

pub inside_from : (r : Run) (a : ℕ) → In r a → is_inside r a ≡ true
inside_from r a h = and_from (nat_le r.start a) (nat_lt a r.end) (nat_le_from r.start a h.0)
    (nat_lt_from a r.end h.1)

-- where the first of some runs ends after r begins, it tells whether one has a number of r
touch_one : (r : Run) (qs : List Run) → r.start < r.end → AreRuns qs → EndAfter r.start qs
    → first_touches r qs ≡ true → (a : ℕ) × In r a × Has qs a
touch_one r [] l w f t = absurd cc
touch_one r (q ∷ qs) l w f t =
    let m = nat_lt_true q.start r.end t in let u = f q (Contains-cons_head q qs) in let v = w.0 in
    elim (cases_Bool (nat_le q.start r.start)) [
      | inl y ↦ (r.start, (omega arith, l), inl (nat_le_true q.start r.start y, u))
      | inr y ↦ let z = nat_le_false q.start r.start y in
          (q.start, (omega arith, m), inl (omega arith, v))
    ]

touch_from : (r : Run) (qs : List Run) → AreRuns qs → (a : ℕ) → In r a → Has qs a
    → first_touches r qs ≡ true
touch_from r [] w a i h = absurd h
touch_from r (q ∷ qs) w a i h = let v = w.0 in let m = i.1 in nat_lt_from q.start r.end (elim h [
  | inl j ↦ let o = j.0 in omega arith
  | inr j ↦ let o = above_first q qs w a j in omega arith
])

pub touches_is : (qs : List Run) (r : Run) → AreRuns qs
    → touches qs r ≡ list_any (is_inside r) (members qs)
touches_is qs r w = bool_same (touches qs r) (list_any (is_inside r) (members qs))
    (λ t. let p = and_parts (nat_lt r.start r.end) (first_touches r (after r.start qs)) t in
    let o = touch_one r (after r.start qs) (nat_lt_true r.start r.end p.0) (after_runs r.start qs w)
    (after_ends r.start qs w) p.1 in
    list_any_from (is_inside r) (members qs) o.0
    ((in_members qs o.0).1 ((after_has r.start qs o.0 o.1.0).0 o.2)) (inside_from r o.0 o.1))
    (λ t. let o = list_any_true (is_inside r) (members qs) t in
    let i = inside_true r o.0 o.2 in let l = i.0 in let m = i.1 in
    and_from (nat_lt r.start r.end) (first_touches r (after r.start qs))
    (nat_lt_from r.start r.end (omega arith))
    (touch_from r (after r.start qs) (after_runs r.start qs w) o.0 i
    ((after_has r.start qs o.0 l).1 ((in_members qs o.0).0 o.1))))

cover_all : (r : Run) (qs : List Run) → first_covers r qs ≡ true → (a : ℕ) → In r a → Has qs a
cover_all r [] t a i = absurd cc
cover_all r (q ∷ qs) t a i =
    let p = and_parts (nat_le q.start r.start) (nat_le r.end q.end) t in
    let l = nat_le_true q.start r.start p.0 in let m = nat_le_true r.end q.end p.1 in
    let n = i.0 in let o = i.1 in inl (omega arith, omega arith)

cover_from : (r : Run) (qs : List Run) → r.start < r.end → AreRuns qs → EndAfter r.start qs
    → ((a : ℕ) → In r a → Has qs a) → first_covers r qs ≡ true
cover_from r [] l w f h = absurd (h r.start (omega arith, l))
cover_from r (q ∷ qs) l w f h =
    let u = f q (Contains-cons_head q qs) in
    and_from (nat_le q.start r.start) (nat_le r.end q.end)
    (nat_le_from q.start r.start
    (elim (h r.start (omega arith, l)) [
      | inl i ↦ i.0
      | inr i ↦ let o = above_first q qs w r.start i in absurd (omega arith)
    ]))
    (elim (cases_Bool (nat_le r.end q.end)) [
      | inl y ↦ y
      | inr y ↦ let z = nat_le_false r.end q.end y in elim (h q.end (omega arith, z)) [
        | inl i ↦ let o = i.1 in absurd (omega arith)
        | inr i ↦ let o = above_first q qs w q.end i in absurd (omega arith)
      ]
    ])

pub covers_is : (qs : List Run) (r : Run) → AreRuns qs → covers qs r ≡ list_all (is_in (members qs))
    (numbers_of r)
covers_is qs r w = bool_same (covers qs r) (list_all (is_in (members qs)) (numbers_of r))
    (λ t. list_all_from (is_in (members qs)) (numbers_of r) (λ a h. let i = (in_numbers r a).0 h in
    let l = i.0 in let m = i.1 in
    elim (or_cases (nat_le r.end r.start) (first_covers r (after r.start qs)) t) [
      | inl y ↦ let z = nat_le_true r.end r.start y in absurd (omega arith)
      | inr y ↦ in_list (members qs) a
          ((in_members qs a).1 ((after_has r.start qs a l).0
          (cover_all r (after r.start qs) y a i)))
    ]))
    (λ t. elim (cases_Bool (nat_le r.end r.start)) [
      | inl y ↦ or_left (nat_le r.end r.start) (first_covers r (after r.start qs)) y
      | inr y ↦ or_right (nat_le r.end r.start) (first_covers r (after r.start qs))
          (cover_from r (after r.start qs) (nat_le_false r.end r.start y) (after_runs r.start qs w)
          (after_ends r.start qs w)
          (λ a i. (after_has r.start qs a i.0).1
          ((in_members qs a).0 (from_list (members qs) a
          (list_all_true (is_in (members qs)) (numbers_of r) t a ((in_numbers r a).1 i))))))
    ])

-- some run of d holds one of g
pub intersects_is : (rs : List Run) (g : List ℕ) → list_any (λ r. list_any (is_inside r) g) rs
    ≡ intersects (members rs) g
intersects_is rs g = bool_same (list_any (λ r. list_any (is_inside r) g) rs)
    (intersects (members rs) g)
    (λ t. let o = list_any_true (λ r. list_any (is_inside r) g) rs t in
    let p = list_any_true (is_inside o.0) g o.2 in
    list_any_from (is_in (members rs)) g p.0 p.1
    (in_list (members rs) p.0
    ((in_members rs p.0).1 (has_one rs o.0 p.0 o.1 (inside_true o.0 p.0 p.2)))))
    (λ t. let o = list_any_true (is_in (members rs)) g t in
    let p = of_one rs o.0 ((in_members rs o.0).0 (from_list (members rs) o.0 o.2)) in
    list_any_from (λ r. list_any (is_inside r) g) rs p.0 p.1
    (list_any_from (is_inside p.0) g o.0 o.1 (inside_from p.0 o.0 p.2)))

pub within_is : (rs : List Run) (g : List ℕ) → list_all (λ r. list_all (is_in g) (numbers_of r))
    rs ≡ is_within (members rs) g
within_is rs g = bool_same (list_all (λ r. list_all (is_in g) (numbers_of r)) rs)
    (is_within (members rs) g)
    (λ t. list_all_from (is_in g) (members rs) (λ a h. let p = of_one rs a ((in_members rs a).0 h)
    in
    list_all_true (is_in g) (numbers_of p.0) (list_all_true (λ r. list_all (is_in g) (numbers_of r))
    rs t p.0 p.1) a ((in_numbers p.0 a).1 p.2)))
    (λ t. list_all_from (λ r. list_all (is_in g) (numbers_of r)) rs
    (λ r h. list_all_from (is_in g) (numbers_of r) (λ a i.
    list_all_true (is_in g) (members rs) t a
    ((in_members rs a).1 (has_one rs r a h ((in_numbers r a).0 i))))))

pub list_any_same : (p q : Run → Bool) → ((r : Run) → p r ≡ q r) → (rs : List Run)
    → list_any p rs ≡ list_any q rs
list_any_same p q f [] = refl
list_any_same p q f (r ∷ rs) = rw (f r, list_any_same p q f rs) refl
