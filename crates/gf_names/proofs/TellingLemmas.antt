-- The last of some ids that conflict with an operation, and these for all sites.
use Rattle.std.proofs.Common.{◌≡◌, true, ℕ, ◌+◌, ◌≤◌, ◌<◌, List, [], ◌∷◌, ◌++◌, get_or, refl, sym, subst}
use Rattle.std.proofs.Common.{ap, ◌∙◌, arith, inl, inr}
use Rattle.std.specs.Prelude.{◌↔◌, ◌⊎◌, ◌==◌, Contains, Option, Some, None, filter, length, take}
use Rattle.std.specs.Prelude.{Ok, Err, Result, IfOk}
use Rattle.std.specs.BTreeSet.{insert_key}
use Rattle.std.specs.List.{fold}
use Rattle.std.proofs.lemmas.Bool.{cases_lt, eqb-true}
use Rattle.std.proofs.lemmas.Bool.Decides.{Decides-eqb}
use Rattle.std.proofs.lemmas.List.{nil_from_length, take_all, take_more}
use Rattle.std.proofs.lemmas.List.Elements.{Contains-append_left, Contains-push}
use Rattle.std.proofs.lemmas.List.Elements.{Contains-push_cases}
use Rattle.gf_base.proofs.FilterLemmas.{Contains-filter}
use Rattle.gf_base.proofs.ListLemmas.{not_Contains-nil}
use Rattle.gf_base.proofs.RisingLemmas.{rising_nil}
use Rattle.gf_base.proofs.InsertLemmas.{inserted_all, holds_all}
use Rattle.gf_ops.proofs.IdLemmas.{id_cmp_total, id_cmp_exact}
use Rattle.gf_ops.specs.declared.op.Op.{Op}
use Rattle.gf_ops.specs.declared.op.OpId.{OpId}
use Rattle.gf_ops.specs.AimTests.{ConflictsAt}
use Rattle.gf_ops.specs.OperationOrder.{id_cmp}
use Rattle.gf_ops.specs.ValidHistory.{IsValid}
use Rattle.gf_ops.specs.Version.{IsMember}
use Rattle.gf_ops.proofs.HistoryLemmas.{site_in_range}
use Rattle.gf_ops.proofs.ValidityLemmas.{same_op}
use Rattle.gf_names.specs.RisingIds.{IsRisingOf}
use Rattle.gf_names.specs.Telling.{IsTelling, AreTelling}
use Rattle.gf_names.specs.LastConflict.{AreOfOneSite, IsAbove, IsLastConflict, TellsLast, TellsAt}
use Rattle.gf_names.specs.LastConflict.{TellsFrom}
use Rattle.gf_names.proofs.AddingLemmas.{added_more}

pub rising_told : (given found : List OpId) → found ≡ fold (insert_key id_cmp) [] given
    → IsRisingOf given found
rising_told given found e = subst (IsRisingOf given) (sym e) (record {
  exactly = λ i.
      let f = holds_all id_cmp id_cmp_total id_cmp_exact given [] i in
      (λ c. elim (f.0 c) [ inl n ↦ absurd (not_Contains-nil i n) | inr k ↦ k ], λ k. f.1 (inr k));
  rising = inserted_all id_cmp id_cmp_total id_cmp_exact given [] (rising_nil id_cmp id_cmp_total);
})

-- ---- the last one

module _ (h : List Op) (x : Op) (ids : List OpId) (n : ℕ) (d : OpId) (within : n < length ids) where
  abbrev here : OpId
  here = get_or ids n d

  more : take (n + 1) ids ≡ take n ids ++ here ∷ []
  more = take_more ids n d within

  cases : (j : OpId) → Contains (take (n + 1) ids) j → Contains (take n ids) j ⊎ (here ≡ j)
  cases j c = Contains-push_cases (take n ids) here j (subst (λ (l : List OpId). Contains l j) more
      c)

  pub last_more : (last : Option OpId) → TellsLast h (take n ids) x last → IsAbove here last
      → ConflictsAt h x here → TellsLast h (take (n + 1) ids) x (Some here)
  last_more last t above m = record {
    listed = subst (λ (l : List OpId). Contains l here) (sym more)
        (Contains-push (take n ids) here);
    conflicts = m;
    last = λ j c k. elim (cases j c) [
      | inl b ↦ below last t above j b k
      | inr e ↦ subst (λ (i : OpId). i.seq ≤ here.seq) e (omega arith)
    ];
  }
    where
      below : (l : Option OpId) → TellsLast h (take n ids) x l → IsAbove here l → (j : OpId)
          → Contains (take n ids) j → ConflictsAt h x j → j.seq ≤ here.seq
      below None s a j b k = absurd (s j b k)
      below (Some l) s a j b k = let p = s.last j b k in omega arith

  pub last_same : (last : Option OpId) → TellsLast h (take n ids) x last
      → ¬ (IsAbove here last × ConflictsAt h x here) → TellsLast h (take (n + 1) ids) x last
  last_same None t not = λ j c k. elim (cases j c) [
    | inl b ↦ t j b k
    | inr e ↦ not (tt, subst (ConflictsAt h x) (sym e) k)
  ]
  last_same (Some l) t not = record {
    listed = subst (λ (s : List OpId). Contains s l) (sym more)
        (Contains-append_left (take n ids) (here ∷ []) l t.listed);
    conflicts = t.conflicts;
    last = λ j c k. elim (cases j c) [
      | inl b ↦ t.last j b k
      | inr e ↦ elim (cases_lt l.seq here.seq) [
        | inl less ↦ absurd (not (less, subst (ConflictsAt h x) (sym e) k))
        | inr most ↦ subst (λ (i : OpId). i.seq ≤ l.seq) e (omega arith)
      ]
    ];
  }

pub last_all : (h : List Op) (x : Op) (ids : List OpId) (n : ℕ) (last : Option OpId)
    → length ids ≤ n → TellsLast h (take n ids) x last → TellsLast h ids x last
last_all h x ids n last l t = subst (λ (s : List OpId). TellsLast h s x last) (take_all n ids l) t

-- ---- against one of the others

module _ (h : List Op) (valid : IsValid h) (ids : List OpId) (j : OpId) where
  pub at_none : (old : List OpId) → ((op : Op) → Contains h op → ¬ (op.id ≡ j)) → (i : OpId)
      → Contains old i ↔ (Contains old i ⊎ TellsAt h ids j i)
  at_none old none i = (
    λ c. inl c,
    λ w. elim w [ inl c ↦ c | inr t ↦ absurd (none t.against t.contained t.id) ],
  )

  module _ (x : Op) (there : Contains h x) (id : x.id ≡ j) where
    only : (i : OpId) (t : TellsAt h ids j i) → t.against ≡ x
    only i t = same_op h valid t.against x t.contained there (t.id ∙ sym id)

    pub at_unmet : (old : List OpId) → TellsLast h ids x None → (i : OpId)
        → Contains old i ↔ (Contains old i ⊎ TellsAt h ids j i)
    at_unmet old none i = (
      λ c. inl c,
      λ w. elim w [
        | inl c ↦ c
        | inr t ↦ absurd (none i t.last.listed (subst (λ (y : Op). ConflictsAt h y i) (only i t)
            t.last.conflicts))
      ],
    )

    pub at_met : (old new : List OpId) (l : OpId) → AreOfOneSite ids → TellsLast h ids x (Some l)
        → new ≡ old ++ l ∷ [] → (i : OpId) → Contains new i ↔ (Contains old i ⊎ TellsAt h ids j i)
    at_met old new l one t e i = (
      λ c. elim (Contains-push_cases old l i (subst (λ (s : List OpId). Contains s i) e c)) [
        | inl k ↦ inl k
        | inr s ↦ inr (subst (TellsAt h ids j) s
            (record { against = x; contained = there; id = id; last = t }))
      ],
      λ w. subst (λ (s : List OpId). Contains s i) (sym e) (elim w [
        | inl k ↦ Contains-append_left old (l ∷ []) i k
        | inr u ↦
            let m = subst (λ (y : Op). IsLastConflict h ids y i) (only i u) u.last in
            let low = t.last i m.listed m.conflicts in
            let high = m.last l t.listed t.conflicts in
            let site = one l i t.listed m.listed in
            let seq : l.seq ≡ i.seq = omega arith in
            let same : l ≡ i = λ k. record { site = site k; seq = seq k } in
            subst (Contains (old ++ l ∷ [])) same (Contains-push old l)
      ]),
    )

-- ---- against all of the others

module _ (h : List Op) (ids others : List OpId) (n : ℕ) where
  from_more : (d : OpId) → n < length others → (i : OpId) → TellsFrom h ids (take (n + 1) others) i
      ↔ (TellsFrom h ids (take n others) i ⊎ TellsAt h ids (get_or others n d) i)
  from_more d within i =
      let all = take_more others n d within in
      let here = get_or others n d in (
        λ t. elim (Contains-push_cases (take n others) here t.against.id
            (subst (λ (s : List OpId). Contains s t.against.id) all t.other.grouped)) [
              | inl k ↦ inl (record {
                against = t.against;
                other = record { contained = t.other.contained; grouped = k };
                last = t.last;
              })
              | inr e ↦ inr (record {
                against = t.against;
                contained = t.other.contained;
                id = sym e;
                last = t.last;
              })
            ],
        λ w. elim w [
          | inl t ↦ record {
            against = t.against;
            other = record {
              contained = t.other.contained;
              grouped = subst (λ (s : List OpId). Contains s t.against.id) (sym all)
                  (Contains-append_left (take n others) (here ∷ []) t.against.id t.other.grouped);
            };
            last = t.last;
          }
          | inr t ↦ record {
            against = t.against;
            other = record {
              contained = t.contained;
              grouped = subst (λ (s : List OpId). Contains s t.against.id) (sym all)
                  (subst (Contains (take n others ++ here ∷ [])) (sym t.id)
                  (Contains-push (take n others) here));
            };
            last = t.last;
          }
        ],
      )

  pub lasts_more : (first old new : List OpId) (d : OpId) → n < length others
      → ((i : OpId) → Contains old i ↔ (Contains first i ⊎ TellsFrom h ids (take n others) i))
      → ((i : OpId) → Contains new i ↔ (Contains old i ⊎ TellsAt h ids (get_or others n d) i))
      → (i : OpId) → Contains new i ↔ (Contains first i ⊎ TellsFrom h ids (take (n + 1) others) i)
  lasts_more first old new d within was adds i = added_more (from_more d within i) (was i) (adds i)

  pub lasts_all : (first new : List OpId) → length others ≤ n
      → ((i : OpId) → Contains new i ↔ (Contains first i ⊎ TellsFrom h ids (take n others) i))
      → (i : OpId) → Contains new i ↔ (Contains first i ⊎ TellsFrom h ids others i)
  lasts_all first new l f = subst (λ (s : List OpId). (i : OpId)
      → Contains new i ↔ (Contains first i ⊎ TellsFrom h ids s i)) (take_all n others l) f

-- ---- of each site

module _ (h : List Op) (members others : List OpId) where
  abbrev pub Tells : OpId → Type 0
  Tells i = IsTelling h members (IsMember h others) i

  of_site : (s : ℕ) (i : OpId) → Contains (filter (λ (k : OpId). k.site == s) members) i
      ↔ (Contains members i × (i.site ≡ s))
  of_site s i =
      let f = Contains-filter (λ (k : OpId). k.site == s) members i in (
        λ c. let p = f.0 c in (p.0, (Decides-eqb i.site s).0 p.1),
        λ p. f.1 (p.0, (Decides-eqb i.site s).1 p.1),
      )

  pub one_site : (s : ℕ) → AreOfOneSite (filter (λ (k : OpId). k.site == s) members)
  one_site s i j c d = ((of_site s i).0 c).1 ∙ sym ((of_site s j).0 d).1

  site_told : (s : ℕ) (i : OpId) → TellsFrom h (filter (λ (k : OpId). k.site == s) members) others i
      ↔ ((i.site ≡ s) × Tells i)
  site_told s i = (
    λ t.
        let m = t.last.conflicts in
        let own = (of_site s i).0 t.last.listed in (
          own.1,
          record {
            op = m.op;
            id = m.id;
            against = t.against;
            other = t.other;
            last = record {
              member = record {
                contained = m.contained;
                grouped = subst (Contains members) (sym m.id) own.0;
              };
              conflict = m.direct;
              last = λ b g same d. subst (λ (k : OpId). b.id.seq ≤ k.seq) (sym m.id)
                  (t.last.last b.id ((of_site s b.id).1
                  (g.grouped, same ∙ (ap (λ (k : OpId). k.site) m.id ∙ own.1)))
                  (record { op = b; contained = g.contained; id = refl; direct = d }));
            };
          },
        ),
    λ p.
        let t = p.1 in
        let l = t.last in
        record {
          against = t.against;
          other = t.other;
          last = record {
            listed = (of_site s i).1 (subst (Contains members) t.id l.member.grouped, p.0);
            conflicts = record {
              op = t.op;
              contained = l.member.contained;
              id = t.id;
              direct = l.conflict;
            };
            last = λ j c m.
                let own = (of_site s j).0 c in
                let same : m.op.id.site ≡ t.op.id.site = ap (λ (k : OpId). k.site) m.id
                ∙ (own.1 ∙ (sym p.0 ∙ sym (ap (λ (k : OpId). k.site) t.id))) in
                let most = l.last m.op (record {
                  contained = m.contained;
                  grouped = subst (Contains members) (sym m.id) own.0;
                }) same m.direct in
                let f = ap (λ (k : OpId). k.seq) m.id in
                let g = ap (λ (k : OpId). k.seq) t.id in
                omega arith;
          };
        },
  )

  pub site_more : (old new own : List OpId) (s : ℕ)
      → own ≡ filter (λ (k : OpId). k.site == s) members
      → ((i : OpId) → Contains old i ↔ ((i.site < s) × Tells i))
      → ((i : OpId) → Contains new i ↔ (Contains old i ⊎ TellsFrom h own others i))
      → (i : OpId) → Contains new i ↔ ((i.site < s + 1) × Tells i)
  site_more old new own s e was adds i =
      let f = site_told s i in (
        λ c. elim ((adds i).0 c) [
          | inl k ↦ let p = (was i).0 k in let l = p.0 in (omega arith, p.1)
          | inr t ↦ let p = f.0 (subst (λ (z : List OpId). TellsFrom h z others i) e t) in
              let l = p.0 in (omega arith, p.1)
        ],
        λ p. (adds i).1 (elim (cases_lt i.site s) [
          | inl l ↦ inl ((was i).1 (l, p.1))
          | inr l ↦ let k = p.0 in let q : i.site ≡ s = omega arith in
              inr (subst (λ (z : List OpId). TellsFrom h z others i) (sym e) (f.1 (q, p.1)))
        ]),
      )

  module _ (valid : IsValid h) where
    site_told-range : (i : OpId) → Tells i → (1 ≤ i.site) × (i.site ≤ 8)
    site_told-range i t =
        let s = site_in_range t.op (valid.in_range t.op t.last.member.contained) in
        subst (λ (k : OpId). (1 ≤ k.site) × (k.site ≤ 8)) t.id s

    pub site_first : (i : OpId) → Contains [] i ↔ ((i.site < 1) × Tells i)
    site_first i = (
      λ c. absurd (not_Contains-nil i c),
      λ p. let l = p.0 in let m = (site_told-range i p.1).0 in absurd (omega arith),
    )

    pub site_last : (found seen : List OpId) → seen ≡ found
        → (n : ℕ) {E : Type 0} (r : Result (List OpId) E) → 9 ≤ n
        → ((i : OpId) → Contains found i ↔ ((i.site < n) × Tells i))
        → IfOk r (λ ids. IsRisingOf seen ids)
        → IfOk r (λ ids. AreTelling h members (IsMember h others) ids)
    site_last found seen same n (Err e) nine all r = tt
    site_last found seen same n (Ok ids) nine all r =
        let f = subst (λ (s : List OpId). IsRisingOf s ids) same r in
        record {
          exactly = λ i. (
            λ c. ((all i).0 ((f.exactly i).0 c)).1,
            λ t. let m = (site_told-range i t).1 in (f.exactly i).1 ((all i).1 (omega arith, t)),
          );
          rising = f.rising;
        }

-- ---- none to tell from

-- no others tell nothing
pub told_none : (h : List Op) (members others : List OpId) → (length others == 0) ≡ true
    → {E : Type 0} (r : Result (List OpId) E) → IfOk r (λ ids. IsRisingOf others ids)
    → IfOk r (λ ids. AreTelling h members (IsMember h others) ids)
told_none h members others empty (Err e) f = tt
told_none h members others empty (Ok ids) f =
    let none = nil_from_length others (eqb-true (length others) 0 empty) in
    let never : (i : OpId) → ¬ (Contains others i) =
    λ i c. not_Contains-nil i (subst (λ (s : List OpId). Contains s i) none c) in
    record {
      exactly = λ i. (
        λ c. absurd (never i ((f.exactly i).0 c)),
        λ t. absurd (never t.against.id t.other.grouped),
      );
      rising = f.rising;
    }
