-- One more number in runs, and what the calls leave that put it there.
use Rattle.std.proofs.Common.{◌≡◌, length, get_or, take, drop, append_assoc, ℕ, zero, suc, ◌<◌, ◌≤◌}
use Rattle.std.proofs.Common.{◌+◌, ◌-◌, Bool, false, List, [], ◌∷◌, ◌++◌, inl, inr, refl}
use Rattle.std.proofs.Common.{subst, sym, ap, ◌∙◌, arith, nat_le, nat_lt}
use Rattle.std.specs.Prelude.{◌⊎◌, ◌↔◌, Contains, ◌==◌, ◌&&◌}
use Rattle.std.specs.Prelude.{Result, Ok, Err, OnOk, OnErr}
use Rattle.std.specs.FinMap.{nat_cmp-IsAntisymmetric}
use Rattle.std.specs.Ordering.{nat_cmp}
use Rattle.std.specs.List.{range_with_len, list_any, list_all}
use Rattle.std.proofs.lemmas.Bool.{cases_Bool, and_parts, and_from}
use Rattle.std.proofs.lemmas.Bool.Decides.{Decides-eqb}
use Rattle.std.proofs.lemmas.Cmp.{nat_cmp_total}
use Rattle.std.proofs.lemmas.List.{append-nil}
use Rattle.gf_maximal.specs.declared.run.Run.{Run}
use Rattle.gf_maximal.specs.Growing.{is_in, intersects, without, is_within, joined}
use Rattle.gf_maximal.specs.Runs.{numbers_of, members, AreRuns, Serves, after, is_inside}
use Rattle.gf_maximal.specs.Runs.{touches, covers, piece, cut, all_cut}
use Rattle.gf_maximal.specs.Runs.{absorb, put_into, put, single, until}
use Rattle.gf_maximal.specs.LargestSets.{IsRising}
use Rattle.gf_base.proofs.ListLemmas.{Contains-cons_cases, Contains-cons_head, Contains-cons_tail}
use Rattle.gf_base.proofs.ListLemmas.{not_Contains-nil}
use Rattle.gf_base.proofs.FilterLemmas.{list_any_true, list_any_from}
use Rattle.gf_base.proofs.InsertLemmas.{inserted, holds}
use Rattle.gf_maximal.proofs.MaximalLemmas.{in_list, from_list}
use Rattle.gf_maximal.proofs.RunLemmas.{nat_le_true, nat_le_from, nat_le_false, nat_lt_true}
use Rattle.gf_maximal.proofs.RunLemmas.{nat_lt_false, nat_lt_from}
use Rattle.gf_maximal.proofs.RunSetLemmas.{In, Has, in_range, in_numbers, in_members, range_rises}
use Rattle.gf_maximal.proofs.RunSetLemmas.{members_rise, members_are, after_runs, piece_has}
use Rattle.gf_maximal.proofs.RunSetLemmas.{piece_runs, rest, cut_is, bool_same, inside_true}
use Rattle.gf_maximal.proofs.RunSetLemmas.{inside_from, touches_is, covers_is, intersects_is}
use Rattle.gf_maximal.proofs.RunSetLemmas.{within_is, of_one, has_one}
use Rattle.gf_maximal.proofs.RunSetLemmas.{list_any_same}

-- ---- one more number

abbrev pub longer : ℕ → Run → Run
longer x q = record { start = q.start; end = x + 1 }

single_in : (x a : ℕ) → In (single x) a ↔ (a ≡ x)
single_in x a = (λ h. let l = h.0 in let m = h.1 in omega arith, λ e. (omega arith, omega arith))

unequal : (a b : ℕ) → (a == b) ≡ false → a ≡ b → ⊥
unequal a b f e = let y = (Decides-eqb a b).1 e in cc

-- all of the runs begin above n
abbrev pub StartAbove : ℕ → List Run → Type 0
StartAbove n qs = (q : Run) → Contains qs q → n < q.start

absorb_above : (n : ℕ) (r : Run) (qs : List Run) → n < r.start → StartAbove n qs
    → StartAbove n (absorb r qs)
absorb_above n r [] l f p h = elim (Contains-cons_cases r [] p h) [
  | inl e ↦ subst (λ (z : Run). n < z.start) (sym e) l
  | inr i ↦ absurd (not_Contains-nil p i)
]
absorb_above n r (q ∷ qs) l f p h = elim (cases_Bool (r.end == q.start)) [
  | inl t ↦ elim (Contains-cons_cases (record { start = r.start; end = q.end }) qs p (rw t at h)) [
    | inl e ↦ subst (λ (z : Run). n < z.start) (sym e) l
    | inr i ↦ f p (Contains-cons_tail q qs p i)
  ]
  | inr t ↦ elim (Contains-cons_cases r (q ∷ qs) p (rw t at h)) [
    | inl e ↦ subst (λ (z : Run). n < z.start) (sym e) l
    | inr i ↦ f p i
  ]
]

put_into_above : (n x : ℕ) (q : Run) (qs : List Run) → n < x → StartAbove n (q ∷ qs)
    → StartAbove n (put_into x q qs)
put_into_above n x q qs l f = elim (cases_Bool (q.end == x)) [
  | inl t ↦ rw t (absorb_above n (longer x q) qs (f q (Contains-cons_head q qs))
      (λ p h. f p (Contains-cons_tail q qs p h)))
  | inr t ↦ elim (cases_Bool (nat_le q.start x)) [
    | inl u ↦ rw (t, u) f
    | inr u ↦ elim (cases_Bool (q.start == x + 1)) [
      | inl v ↦ rw (t, u, v) (λ p h. elim (Contains-cons_cases (record { start = x; end = q.end })
          qs p h) [
            | inl e ↦ subst (λ (z : Run). n < z.start) (sym e) l
            | inr i ↦ f p (Contains-cons_tail q qs p i)
          ])
      | inr v ↦ rw (t, u, v) (λ p h. elim (Contains-cons_cases (single x) (q ∷ qs) p h) [
        | inl e ↦ subst (λ (z : Run). n < z.start) (sym e) l
        | inr i ↦ f p i
      ])
    ]
  ]
]

put_above : (n x : ℕ) (rs : List Run) → n < x → StartAbove n rs → StartAbove n (put x rs)
put_above n x [] l f p h = elim (Contains-cons_cases (single x) [] p h) [
  | inl e ↦ subst (λ (z : Run). n < z.start) (sym e) l
  | inr i ↦ absurd (not_Contains-nil p i)
]
put_above n x (q ∷ qs) l f p h = elim (cases_Bool (nat_lt q.end x)) [
  | inl t ↦ elim (Contains-cons_cases q (put x qs) p (rw t at h)) [
    | inl e ↦ subst (λ (z : Run). n < z.start) (sym e) (f q (Contains-cons_head q qs))
    | inr i ↦ put_above n x qs l (λ o j. f o (Contains-cons_tail q qs o j)) p i
  ]
  | inr t ↦ put_into_above n x q qs l f p (rw t at h)
]

-- what ends at x + 1, before runs that begin above x
absorb_runs : (x : ℕ) (r : Run) (qs : List Run) → r.start < r.end → r.end ≡ x + 1 → StartAbove x qs
    → AreRuns qs → AreRuns (absorb r qs)
absorb_runs x r [] l e f w = (l, λ p h. absurd (not_Contains-nil p h), tt)
absorb_runs x r (q ∷ qs) l e f w = let o = f q (Contains-cons_head q qs) in let v = w.0 in
    elim (cases_Bool (r.end == q.start)) [
      | inl t ↦ let d = (Decides-eqb r.end q.start).0 t in rw t (omega arith, w.1, w.2)
      | inr t ↦ let n = unequal r.end q.start t in
          let gap : r.end < q.start = strictly r.end q.start n (omega arith) in
          rw t (
            l,
            λ p h. elim (Contains-cons_cases q qs p h) [
              | inl d ↦ subst (λ (z : Run). r.end < z.start) (sym d) gap
              | inr i ↦ let m = w.1 p i in omega arith
            ],
            w,
          )
    ]
  where
    strictly : (a b : ℕ) → (a ≡ b → ⊥) → a ≤ b → a < b
    strictly a b n l = elim (cases_Bool (nat_lt a b)) [
      | inl y ↦ nat_lt_true a b y
      | inr y ↦ let z = nat_lt_false a b y in absurd (n (omega arith))
    ]

absorb_has : (r : Run) (qs : List Run) → AreRuns qs → r.start < r.end → (a : ℕ)
    → Has (absorb r qs) a ↔ (In r a ⊎ Has qs a)
absorb_has r [] w l a = (λ h. h, λ h. h)
absorb_has r (q ∷ qs) w l a = elim (cases_Bool (r.end == q.start)) [
  | inl t ↦ let d = (Decides-eqb r.end q.start).0 t in let v = w.0 in rw t (
    λ h. elim h [
      | inl i ↦ let m = i.0 in let n = i.1 in elim (cases_Bool (nat_lt a r.end)) [
        | inl y ↦ inl (m, nat_lt_true a r.end y)
        | inr y ↦ let z = nat_lt_false a r.end y in inr (inl (omega arith, n))
      ]
      | inr i ↦ inr (inr i)
    ],
    λ h. elim h [
      | inl i ↦ let m = i.0 in let n = i.1 in inl (m, omega arith)
      | inr i ↦ elim i [
        | inl j ↦ let m = j.0 in let n = j.1 in inl (omega arith, n)
        | inr j ↦ inr j
      ]
    ],
  )
  | inr t ↦ rw t (λ h. h, λ h. h)
]

put_into_runs : (x : ℕ) (q : Run) (qs : List Run) → x ≤ q.end → AreRuns (q ∷ qs)
    → AreRuns (put_into x q qs)
put_into_runs x q qs l w = let v = w.0 in elim (cases_Bool (q.end == x)) [
  | inl t ↦ let e = (Decides-eqb q.end x).0 t in
      rw t (absorb_runs x (longer x q) qs (omega arith) refl (λ p h. let m = w.1 p h in omega arith)
      w.2)
  | inr t ↦ let n = unequal q.end x t in elim (cases_Bool (nat_le q.start x)) [
    | inl u ↦ rw (t, u) w
    | inr u ↦ let m = nat_le_false q.start x u in elim (cases_Bool (q.start == x + 1)) [
      | inl y ↦ let e = (Decides-eqb q.start (x + 1)).0 y in rw (t, u, y) (omega arith, w.1, w.2)
      | inr y ↦ let o = unequal q.start (x + 1) y in
          let gap : x + 1 < q.start = elim (cases_Bool (nat_lt (x + 1) q.start)) [
            | inl z ↦ nat_lt_true (x + 1) q.start z
            | inr z ↦ let k = nat_lt_false (x + 1) q.start z in absurd (o (omega arith))
          ] in
          rw (t, u, y) (
            omega arith,
            λ p h. elim (Contains-cons_cases q qs p h) [
              | inl e ↦ subst (λ (z : Run). x + 1 < z.start) (sym e) gap
              | inr i ↦ let k = w.1 p i in omega arith
            ],
            w,
          )
    ]
  ]
]

put_into_has : (x : ℕ) (q : Run) (qs : List Run) → x ≤ q.end → AreRuns (q ∷ qs) → (a : ℕ)
    → Has (put_into x q qs) a ↔ (Has (q ∷ qs) a ⊎ (a ≡ x))
put_into_has x q qs l w a = let v = w.0 in elim (cases_Bool (q.end == x)) [
  | inl t ↦ let e = (Decides-eqb q.end x).0 t in
      let k = absorb_has (longer x q) qs w.2 (omega arith) a in rw t (
        λ h. elim (k.0 h) [
          | inl i ↦ let m = i.0 in let n = i.1 in elim (cases_Bool (nat_lt a q.end)) [
            | inl y ↦ inl (inl (m, nat_lt_true a q.end y))
            | inr y ↦ let z = nat_lt_false a q.end y in inr (omega arith)
          ]
          | inr i ↦ inl (inr i)
        ],
        λ h. k.1 (elim h [
          | inl i ↦ elim i [
            | inl j ↦ let m = j.0 in let n = j.1 in inl (m, omega arith)
            | inr j ↦ inr j
          ]
          | inr d ↦ inl (omega arith, omega arith)
        ]),
      )
  | inr t ↦ let n = unequal q.end x t in
      let strict : x < q.end = elim (cases_Bool (nat_lt x q.end)) [
        | inl y ↦ nat_lt_true x q.end y
        | inr y ↦ let z = nat_lt_false x q.end y in absurd (n (omega arith))
      ] in
      elim (cases_Bool (nat_le q.start x)) [
        | inl u ↦ let m = nat_le_true q.start x u in rw (t, u) (
          λ h. inl h,
          λ h. elim h [ inl i ↦ i | inr d ↦ inl (omega arith, omega arith) ],
        )
        | inr u ↦ let m = nat_le_false q.start x u in elim (cases_Bool (q.start == x + 1)) [
          | inl y ↦ let e = (Decides-eqb q.start (x + 1)).0 y in rw (t, u, y) (
            λ h. elim h [
              | inl i ↦ let o = i.0 in let p = i.1 in elim (cases_Bool (nat_lt x a)) [
                | inl z ↦ let b = nat_lt_true x a z in inl (inl (omega arith, p))
                | inr z ↦ let b = nat_lt_false x a z in inr (omega arith)
              ]
              | inr i ↦ inl (inr i)
            ],
            λ h. elim h [
              | inl i ↦ elim i [
                | inl j ↦ let o = j.0 in let p = j.1 in inl (omega arith, p)
                | inr j ↦ inr j
              ]
              | inr d ↦ inl (omega arith, omega arith)
            ],
          )
          | inr y ↦ rw (t, u, y) (
            λ h. elim h [ inl i ↦ inr ((single_in x a).0 i) | inr i ↦ inl i ],
            λ h. elim h [ inl i ↦ inr i | inr e ↦ inl ((single_in x a).1 e) ],
          )
        ]
      ]
]

put_runs : (x : ℕ) (rs : List Run) → AreRuns rs → AreRuns (put x rs)
put_runs x [] w = (omega arith, λ q h. absurd (not_Contains-nil q h), tt)
put_runs x (q ∷ qs) w = elim (cases_Bool (nat_lt q.end x)) [
  | inl t ↦ rw t (w.0, put_above q.end x qs (nat_lt_true q.end x t) w.1, put_runs x qs w.2)
  | inr t ↦ rw t (put_into_runs x q qs (nat_lt_false q.end x t) w)
]

put_has : (x : ℕ) (rs : List Run) → AreRuns rs → (a : ℕ) → Has (put x rs) a ↔ (Has rs a ⊎ (a ≡ x))
put_has x [] w a = (
  λ h. elim h [ inl i ↦ inr ((single_in x a).0 i) | inr i ↦ absurd i ],
  λ h. elim h [ inl i ↦ absurd i | inr e ↦ inl ((single_in x a).1 e) ],
)
put_has x (q ∷ qs) w a = elim (cases_Bool (nat_lt q.end x)) [
  | inl t ↦ rw t (
    λ h. elim h [
      | inl i ↦ inl (inl i)
      | inr i ↦ elim ((put_has x qs w.2 a).0 i) [ inl j ↦ inl (inr j) | inr e ↦ inr e ]
    ],
    λ h. elim h [
      | inl i ↦ elim i [ inl j ↦ inl j | inr j ↦ inr ((put_has x qs w.2 a).1 (inl j)) ]
      | inr e ↦ inr ((put_has x qs w.2 a).1 (inr e))
    ],
  )
  | inr t ↦ rw t (put_into_has x q qs (nat_lt_false q.end x t) w a)
]

pub put_is : (x : ℕ) (rs : List Run) → AreRuns rs
    → AreRuns (put x rs) × (members (put x rs) ≡ joined x (members rs))
put_is x rs w =
    let k = put_runs x rs w in
    let has : (a : ℕ) → Contains (joined x (members rs)) a ↔ (Contains (members rs) a ⊎ (a ≡ x)) =
    λ a. holds nat_cmp nat_cmp_total nat_cmp-IsAntisymmetric x (members rs) a in (
      k,
      members_are (put x rs) (joined x (members rs)) k
          (inserted nat_cmp nat_cmp_total nat_cmp-IsAntisymmetric x (members rs)
          (members_rise rs w)) (λ a. (
            λ h. (has a).1 (elim ((put_has x rs w a).0 h)
                [ inl i ↦ inl ((in_members rs a).1 i) | inr e ↦ inr e ]),
            λ h. (put_has x rs w a).1
                (elim ((has a).0 h) [ inl i ↦ inl ((in_members rs a).0 i) | inr e ↦ inr e ]),
          )),
    )

-- ---- what calls leave

pub put_kept : {A B : Type 0} (r : Result A B) (x : ℕ) (rs ss : List Run) → OnOk r (ss ≡ put x rs)
    → OnErr r (ss ≡ rs) → AreRuns rs → AreRuns ss
put_kept (Ok a) x rs ss f g w = subst AreRuns (sym f) (put_is x rs w).0
put_kept (Err b) x rs ss f g w = subst AreRuns (sym g) w

pub put_gives : {A B : Type 0} (r : Result A B) (x : ℕ) (rs ss : List Run) (g : List ℕ)
    → OnOk r (ss ≡ put x rs) → AreRuns rs → members rs ≡ g → OnOk r (members ss ≡ joined x g)
put_gives (Ok a) x rs ss g f w e = rw (f, sym e) (put_is x rs w).1
put_gives (Err b) x rs ss g f w e = tt

pub touches_told : (r : Run) (qs ss : List Run) (g : List ℕ) (t : Bool) → ss ≡ qs → AreRuns qs
    → members qs ≡ g → t ≡ touches ss r → t ≡ list_any (is_inside r) g
touches_told r qs ss g t e w v k = rw (← v) (subst (λ z. t ≡ touches z r) e k ∙ touches_is qs r w)

pub covers_told : (r : Run) (qs ss : List Run) (g : List ℕ) (t : Bool) → ss ≡ qs → AreRuns qs
    → members qs ≡ g → t ≡ covers ss r → t ≡ list_all (is_in g) (numbers_of r)
covers_told r qs ss g t e w v k = rw (← v) (subst (λ z. t ≡ covers z r) e k ∙ covers_is qs r w)

pub intersects_told : (rs qs rs2 qs2 : List Run) (k g : List ℕ) (t : Bool) → rs2 ≡ rs → qs2 ≡ qs
    → AreRuns qs → members rs ≡ k → members qs ≡ g → t ≡ list_any (touches qs2) rs2
    → t ≡ intersects k g
intersects_told rs qs rs2 qs2 k g t e f w v u h = rw (← v, ← u)
    (h ∙ (ap (λ z. list_any (touches z) rs2) f ∙ (ap (list_any (touches qs)) e
    ∙ (list_any_same (touches qs) (λ r. list_any (is_inside r) (members qs))
    (λ r. touches_is qs r w) rs ∙ intersects_is rs (members qs)))))

below_is : (n : ℕ) (rs : List Run) (g : List ℕ) → list_any (λ r. list_any (is_inside (until n r)) g)
    rs ≡ list_any (λ b. nat_lt b n && is_in (members rs) b) g
below_is n rs g = bool_same (list_any (λ r. list_any (is_inside (until n r)) g) rs)
    (list_any (λ b. nat_lt b n && is_in (members rs) b) g)
    (λ t.
    let o = list_any_true (λ r. list_any (is_inside (until n r)) g) rs t in
    let w = list_any_true (is_inside (until n o.0)) g o.2 in
    let i = inside_true (until n o.0) w.0 w.2 in
    let low = i.0 in let high = i.1 in
    list_any_from (λ b. nat_lt b n && is_in (members rs) b) g w.0 w.1
    (and_from (nat_lt w.0 n) (is_in (members rs) w.0) (nat_lt_from w.0 n (omega arith))
    (in_list (members rs) w.0 ((in_members rs w.0).1
    (has_one rs o.0 w.0 o.1 (low, omega arith))))))
    (λ t.
    let w = list_any_true (λ b. nat_lt b n && is_in (members rs) b) g t in
    let p = and_parts (nat_lt w.0 n) (is_in (members rs) w.0) w.2 in
    let l = nat_lt_true w.0 n p.0 in
    let o = of_one rs w.0 ((in_members rs w.0).0 (from_list (members rs) w.0 p.1)) in
    let low = o.2.0 in let high = o.2.1 in
    list_any_from (λ r. list_any (is_inside (until n r)) g) rs o.0 o.1
    (list_any_from (is_inside (until n o.0)) g w.0 w.1
    (inside_from (until n o.0) w.0 (low, omega arith))))

pub below_told : (n : ℕ) (rs ss : List Run) (k g : List ℕ) (t : Bool) → ss ≡ rs → members rs ≡ k
    → t ≡ list_any (λ r. list_any (is_inside (until n r)) g) ss
    → t ≡ list_any (λ b. nat_lt b n && is_in k b) g
below_told n rs ss k g t e v h = rw (← v)
    (subst (λ z. t ≡ list_any (λ r. list_any (is_inside (until n r)) g) z) e h ∙ below_is n rs g)

pub within_told : (rs ss : List Run) (g k : List ℕ) (t : Bool) → ss ≡ rs → members rs ≡ k
    → t ≡ list_all (λ r. list_all (is_in g) (numbers_of r)) ss → t ≡ is_within k g
within_told rs ss g k t e v h = rw (← v)
    (subst (λ z. t ≡ list_all (λ r. list_all (is_in g) (numbers_of r)) z) e h ∙ within_is rs g)

pub cut_kept : (qs rs qs2 rs2 ps : List Run) → qs2 ≡ qs → rs2 ≡ rs → AreRuns qs → AreRuns rs
    → ps ≡ all_cut qs2 rs2 → AreRuns ps
cut_kept qs rs qs2 rs2 ps e f w v h = subst AreRuns
    (sym (h ∙ (ap (λ z. all_cut z rs2) e ∙ ap (all_cut qs) f))) (cut_is qs rs w v).0

pub cut_told : (qs rs qs2 rs2 ps : List Run) (d g : List ℕ) → qs2 ≡ qs → rs2 ≡ rs → AreRuns qs
    → AreRuns rs → members qs ≡ d → members rs ≡ g → ps ≡ all_cut qs2 rs2 → members ps ≡ without d g
cut_told qs rs qs2 rs2 ps d g e f w v i j h = rw (← i, ← j)
    (ap members (h ∙ (ap (λ z. all_cut z rs2) e ∙ ap (all_cut qs) f)) ∙ (cut_is qs rs w v).1)

pub has_is : (x : ℕ) (g : List ℕ) → list_any (is_inside (single x)) g ≡ is_in g x
has_is x g = bool_same (list_any (is_inside (single x)) g) (is_in g x)
    (λ t. let o = list_any_true (is_inside (single x)) g t in
    in_list g x (subst (Contains g) ((single_in x o.0).0 (inside_true (single x) o.0 o.2)) o.1))
    (λ t. list_any_from (is_inside (single x)) g x (from_list g x t)
    (inside_from (single x) x ((single_in x x).1 refl)))

pub range_alone : (n b : ℕ) → IsRising (range_with_len b n)
unfolding Rattle.std.specs.List.Sorted.IsStrictlySortedBy
range_alone n b = subst IsRising (append-nil (range_with_len b n))
    (range_rises n b [] tt (λ y h. absurd (not_Contains-nil y h)))

pub piece_kept : (r : Run) (ps : List Run) → ps ≡ piece r → AreRuns ps
piece_kept r ps e = subst AreRuns (sym e) (piece_runs r)

pub piece_told : (r : Run) (ps : List Run) → ps ≡ piece r
    → members ps ≡ range_with_len r.start (r.end - r.start)
piece_told r ps e = ap members e ∙ members_are (piece r) (numbers_of r) (piece_runs r)
    (range_alone (r.end - r.start) r.start) (λ a. (
      λ h. (in_numbers r a).1 ((piece_has r a).0 h),
      λ h. (piece_has r a).1 ((in_numbers r a).0 h),
    ))

pub Contains-range : (n b a : ℕ) → Contains (range_with_len b n) a ↔ ((b ≤ a) × (a < b + n))
Contains-range = in_range

-- ---- runs that are passed over, one after the other

after_after : (n m : ℕ) (rs : List Run) → n ≤ m → after m (after n rs) ≡ after m rs
after_after n m [] l = refl
after_after n m (r ∷ rs) l = elim (cases_Bool (nat_le r.end n)) [
  | inl t ↦ let k = nat_le_true r.end n t in let u = nat_le_from r.end m (omega arith) in
      rw (t, u) (after_after n m rs l)
  | inr t ↦ rw t refl
]

pub serves_more : (rest new others : List Run) (r : Run) (left : List Run) → AreRuns (r ∷ left)
    → Serves rest others (r ∷ left) → new ≡ after r.start rest → Serves new others left
serves_more rest new others r left w s e = subst (λ z. Serves z others left) (sym e) (record {
  runs = after_runs r.start rest s.runs;
  same = λ q h. let l = w.1 q h in let k = w.0 in after_after r.start q.start rest (omega arith)
      ∙ s.same q (Contains-cons_tail r left q h);
})

pub drop_runs : (i : ℕ) (rs : List Run) → AreRuns rs → AreRuns (drop i rs)
drop_runs zero rs w = w
drop_runs (suc i) [] w = tt
drop_runs (suc i) (r ∷ rs) w = drop_runs i rs w.2

pub drop_at : (rs : List Run) (i : ℕ) (d : Run) → i < length rs
    → drop i rs ≡ get_or rs i d ∷ drop (suc i) rs
drop_at [] i d l = absurd (omega arith)
drop_at (r ∷ rs) zero d l = refl
drop_at (r ∷ rs) (suc i) d l = drop_at rs i d (omega arith)

take_at : (rs : List Run) (i : ℕ) (d : Run) → i < length rs
    → take (suc i) rs ≡ take i rs ++ get_or rs i d ∷ []
take_at [] i d l = absurd (omega arith)
take_at (r ∷ rs) zero d l = refl
take_at (r ∷ rs) (suc i) d l = ap (λ z. r ∷ z) (take_at rs i d (omega arith))

cut_more : (qs rs : List Run) (r : Run) → all_cut qs (rs ++ r ∷ []) ≡ all_cut qs rs ++ cut r
    (after r.start qs)
cut_more qs [] r = append-nil (cut r (after r.start qs))
cut_more qs (p ∷ ps) r = ap (λ z. cut p (after p.start qs) ++ z) (cut_more qs ps r)
    ∙ sym (append_assoc (cut p (after p.start qs)) (all_cut qs ps) (cut r (after r.start qs)))

-- the step of the loop over the runs
pub cut_step : (others runs rest new : List Run) (i j : ℕ) (r z : Run) (done next : List Run)
    → j ≡ i + 1 → i < length runs → r ≡ get_or runs i z → AreRuns runs →
    (done ≡ all_cut others (take i runs)) × Serves rest others (drop i runs)
    → new ≡ after r.start rest → next ≡ done ++ cut r new →
    (next ≡ all_cut others (take j runs)) × Serves new others (drop j runs)
cut_step others runs rest new i j r o done next e l f w s g h =
    let k : j ≡ suc i = omega arith in
    let d : drop i runs ≡ r ∷ drop (suc i) runs = drop_at runs i o l
    ∙ ap (λ z. z ∷ drop (suc i) runs) (sym f) in
    let t : take (suc i) runs ≡ take i runs ++ r ∷ [] = take_at runs i o l
    ∙ ap (λ z. take i runs ++ z ∷ []) (sym f) in
    let serves : Serves rest others (r ∷ drop (suc i) runs) = subst (λ z. Serves rest others z) d
    s.1 in
    let good : AreRuns (r ∷ drop (suc i) runs) = subst AreRuns d (drop_runs i runs w) in
    let same : new ≡ after r.start others = g
    ∙ serves.same r (Contains-cons_head r (drop (suc i) runs)) in
    subst (λ z. (next ≡ all_cut others (take z runs)) × Serves new others (drop z runs)) (sym k) (
      h ∙ (ap (λ z. z ++ cut r new) s.0 ∙ (ap (λ z. all_cut others (take i runs) ++ cut r z) same
          ∙ (sym (cut_more others (take i runs) r) ∙ ap (all_cut others) (sym t)))),
      serves_more rest new others r (drop (suc i) runs) good serves g,
    )
