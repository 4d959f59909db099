-- The walk over the ids of an aim, for two sites: what it noted tells of all that may conflict
-- directly.
use Rattle.std.proofs.Common.{◌≡◌, ◌≢◌, ℕ, ◌+◌, ◌<◌, ◌≤◌, true, List, [], ◌∷◌, ◌++◌, zero, suc}
use Rattle.std.proofs.Common.{length, take, get_or, Option, refl, sym, ap, subst, ◌∙◌, inl, inr}
use Rattle.std.proofs.Common.{arith}
use Rattle.std.specs.Prelude.{◌⊎◌, Contains, slice_index_or}
use Rattle.std.proofs.lemmas.Bool.{cases_eq, cases_lt, cases_order}
use Rattle.std.proofs.lemmas.List.{get_or-take, take_more, take_all}
use Rattle.std.proofs.lemmas.List.Elements.{Contains-get_or, Contains-push_cases}
use Rattle.gf_ops.specs.declared.aim_walk.Latest.{Latest}
use Rattle.gf_ops.specs.declared.op.Op.{Op}
use Rattle.gf_ops.specs.declared.op.OpId.{OpId}
use Rattle.gf_ops.specs.AimTests.{AreDirectlyCompatible, MayAim}
use Rattle.gf_ops.specs.Attribute.{aim_of, object_of}
use Rattle.gf_ops.specs.AimWalk.{IsOfSite, AreOnOne, AreParted, ArePartedBelow, KnewAt, NoneKnew}
use Rattle.gf_ops.specs.AimWalk.{NoneAbove, IsAimTable, ConflictsWithTable, IsNoted}
use Rattle.gf_ops.specs.DirectConflict.{DirectConflict}
use Rattle.gf_ops.specs.OperationOrder.{IsSite, entry, id_cmp, rises}
use Rattle.gf_ops.specs.ValidHistory.{IsValid}
use Rattle.gf_ops.proofs.AimLemmas.{id_less, less_told, behind, rises_tail}
use Rattle.gf_ops.proofs.AimWalkLemmas.{table_met, table_tells}
use Rattle.gf_ops.proofs.DirectConflictLemmas.{direct-sym}
use Rattle.gf_ops.proofs.HistoryLemmas.{site_in_range, seq_in_range}
use Rattle.gf_ops.proofs.ValidityLemmas.{same_op, pasts_grow}

-- ---- the first of a list

taken_at : {X : Type 0} (xs : List X) (m k : ℕ) → k < length (take m xs) → (k < m) × (k < length xs)
taken_at [] zero k l = absurd (omega (arith, l))
taken_at [] (suc m) k l = absurd (omega (arith, l))
taken_at (x ∷ xs) zero k l = absurd (omega (arith, l))
taken_at (x ∷ xs) (suc m) zero l = (omega arith, omega arith)
taken_at (x ∷ xs) (suc m) (suc k) l = let r = taken_at xs m k (omega (arith, l)) in let a = r.0 in
    let b = r.1 in (omega (arith, a), omega (arith, b))

taken_from : {X : Type 0} (xs : List X) (m k : ℕ) → k < m → k < length xs → k < length (take m xs)
taken_from [] m k l b = absurd (omega (arith, b))
taken_from (x ∷ xs) zero k l b = absurd (omega (arith, l))
taken_from (x ∷ xs) (suc m) zero l b = omega arith
taken_from (x ∷ xs) (suc m) (suc k) l b = let r = taken_from xs m k (omega (arith, l))
    (omega (arith, b)) in omega (arith, r)

rises_at : (ids : List OpId) → rises id_cmp ids ≡ true → (k n : ℕ) (d e : OpId) → k < n
    → n < length ids
    → id_less (get_or ids k d) (get_or ids n e) ≡ true
rises_at [] r k n d e l b = absurd (omega (arith, b))
rises_at (i ∷ is) r k zero d e l b = absurd (omega (arith, l))
rises_at (i ∷ is) r zero (suc n) d e l b = behind i is r (get_or is n e)
    (Contains-get_or is n e (omega (arith, b)))
rises_at (i ∷ is) r (suc k) (suc n) d e l b = rises_at is (rises_tail i is r) k n d e
    (omega (arith, l)) (omega (arith, b))

seq_rises : (i j : OpId) → id_less i j ≡ true → i.site ≡ j.site → i.seq < j.seq
seq_rises i j l e = elim (less_told i j l) [ inl a ↦ absurd (omega (arith, a, e)) | inr p ↦ p.1 ]

-- what holds of a walk for the sites s and t at the index n, where the first m are noted
pub record IsWalked (h : List Op) (ids : List OpId) (s t n m : ℕ)
    (table : List (Option Latest)) : Type 0 where
  pub within : m ≤ length ids
  pub tells : IsAimTable h (take m ids) t table
  pub unknowing : (k : ℕ) (d : OpId) → n ≤ k → k < length ids → (slice_index_or ids k d).site ≡ s
      → NoneKnew h (take m ids) t (slice_index_or ids k d)
  pub parted : AreParted h (take n ids) ids s t

module _ (h : List Op) (valid : IsValid h) (ids : List OpId)
    (rising : rises id_cmp ids ≡ true) where
  -- an operation of the first m is one of all
  of_first : (m t : ℕ) (y : Op) → IsOfSite h (take m ids) t y → IsOfSite h ids t y
  of_first m t y of =
      let (k, l, e) = of.among in
      let at = taken_at ids m k l in
      record {
        contained = of.contained;
        among = (k, at.1, sym (get_or-take m ids k y.id at.0) ∙ e);
        site = of.site;
      }

  -- and of the first n + 1, it is one of the first n, or the last of them
  of_more : (n t : ℕ) (d : OpId) (y : Op) → n < length ids → IsOfSite h (take (n + 1) ids) t y
      → IsOfSite h (take n ids) t y ⊎ (y.id ≡ get_or ids n d)
  of_more n t d y l of = elim (Contains-push_cases (take n ids) (get_or ids n d) y.id
      (subst (λ js. Contains js y.id) (take_more ids n d l) of.among)) [
        | inl c ↦ inl (record { contained = of.contained; among = c; site = of.site })
        | inr e ↦ inr (sym e)
      ]

  pub noted_more : (t n : ℕ) (i d : OpId) (table new : List (Option Latest)) → n < length ids
      → ¬ (KnewAt h t i (get_or ids n d)) →
      ((js : List OpId) → NoneAbove h js t (get_or ids n d) → IsAimTable h js t table
      → IsAimTable h (js ++ get_or ids n d ∷ []) t new) →
      IsNoted h ids t n i table → IsNoted h ids t (n + 1) i new
  noted_more t n i d table new l off each noted =
      let above : NoneAbove h (take n ids) t (get_or ids n d) = λ site y of.
      let (k, b, e) = of.among in
      let at = taken_at ids n k b in
      let same : get_or ids k y.id ≡ y.id = sym (get_or-take n ids k y.id at.0) ∙ e in
      let less = subst (λ j. id_less j (get_or ids n d) ≡ true) same
      (rises_at ids rising k n y.id d at.0 l) in
      let seq = seq_rises y.id (get_or ids n d) less (of.site ∙ sym site) in omega (arith, seq)
      in
      record {
        within = omega (arith, l);
        tells = subst (λ js. IsAimTable h js t new) (sym (take_more ids n d l))
            (each (take n ids) above noted.tells);
        unknowing = λ y of known. elim (of_more n t d y l of) [
          | inl old ↦ noted.unknowing y old known
          | inr e ↦ off (record {
            op = y;
            contained = of.contained;
            id = e;
            site = ap (λ (j : OpId). j.site) (sym e) ∙ of.site;
            known = known;
          })
        ];
      }

  -- what lies behind the first that knew i knew it
  rest_knew : (t m : ℕ) (i : OpId) → IsSite i.site
      → ((d : OpId) → m < length ids → KnewAt h t i (slice_index_or ids m d)) → (y : Op)
      → IsOfSite h ids t y → IsOfSite h (take m ids) t y ⊎ (i.seq ≤ entry y.past i.site)
  rest_knew t m i is stop y of =
      let (k, l, e) = of.among in
      elim (cases_lt k m) [
        | inl less ↦ inl (record {
          contained = of.contained;
          among = (k, taken_from ids m k less l, get_or-take m ids k y.id less ∙ e);
          site = of.site;
        })
        | inr more ↦
            let z = stop y.id (omega (arith, more, l)) in
            let number : z.op.id.seq ≡ (get_or ids m y.id).seq = ap (λ (j : OpId). j.seq) z.id in
            let last : z.op.id.seq ≤ y.id.seq = elim (cases_eq k m) [
              | inl s ↦
                  let same : get_or ids m y.id ≡ y.id = ap (λ n. get_or ids n y.id) (sym s) ∙ e in
                  let seq : (get_or ids m y.id).seq ≡ y.id.seq = ap (λ (j : OpId). j.seq) same in
                  omega (arith, number, seq)
              | inr n ↦
                  let less = subst (λ j. id_less (get_or ids m y.id) j ≡ true) e
                  (rises_at ids rising m k y.id y.id (omega (arith, more, n)) l) in
                  let seq = seq_rises (get_or ids m y.id) y.id less (z.site ∙ sym of.site) in
                  omega (arith, number, seq)
            ] in
            let site : z.op.id.site ≡ y.id.site = ap (λ (j : OpId). j.site) z.id
            ∙ (z.site ∙ sym of.site) in
            let range = valid.in_range z.op z.contained in
            let grown = pasts_grow h valid z.op y z.contained of.contained site
            (site_in_range z.op range) (seq_in_range z.op range).0 last i.site is in
            let known = z.known in inr (omega (arith, grown, known))
      ]

  module _ (s t n m : ℕ) (table : List (Option Latest)) (walked : IsWalked h ids s t n m table)
      (d : OpId) (l : n < length ids) where
    -- ids of other sites are passed over
    pub walk_skips : (get_or ids n d).site ≢ s → IsWalked h ids s t (n + 1) m table
    walk_skips off = record {
      within = walked.within;
      tells = walked.tells;
      unknowing = λ k e b. walked.unknowing k e (omega (arith, b));
      parted = λ x y of others. elim (of_more n s d x l of) [
        | inl old ↦ walked.parted x y old others
        | inr e ↦ absurd (off (ap (λ (j : OpId). j.site) (sym e) ∙ of.site))
      ];
    }

    module _ (one : AreOnOne h ids) (is : IsSite s) (site : (get_or ids n d).site ≡ s) (to : ℕ)
        (new : List (Option Latest)) (noted : IsNoted h ids t to (get_or ids n d) new) where
      -- where the operation conflicts with none of the latest, it does with none of its site
      met_now : ((e : OpId) → to < length ids
          → KnewAt h t (get_or ids n d) (slice_index_or ids to e))
          → ¬ (ConflictsWithTable h new (get_or ids n d)) → (x y : Op) → IsOfSite h ids s x
          → x.id ≡ get_or ids n d → IsOfSite h ids t y → ¬ (DirectConflict x y)
      met_now stop off x y of id others direct =
          elim (rest_knew t to (get_or ids n d) (subst IsSite (sym site) is) stop y others) [
            | inl first ↦
                let unknowing : NoneKnew h (take to ids) t x.id = subst (NoneKnew h (take to ids) t)
                (sym id) noted.unknowing in
                let object : (z : Op) → IsOfSite h (take to ids) t z
                → object_of x ≡ object_of z = λ z at. one x z of.contained at.contained of.among
                (of_first to t z at).among in
                let met = table_met h valid (take to ids) t x of.contained unknowing object new
                noted.tells y first direct in
                off (subst (ConflictsWithTable h new) id met)
            | inr known ↦ direct.concurrent.not_before
                (subst (λ j. j.seq ≤ entry y.past j.site) (sym id) known)
          ]

      pub walk_goes : ((e : OpId) → to < length ids
          → KnewAt h t (get_or ids n d) (slice_index_or ids to e))
          → ¬ (ConflictsWithTable h new (get_or ids n d)) → IsWalked h ids s t (n + 1) to new
      walk_goes stop off = record {
        within = noted.within;
        tells = noted.tells;
        unknowing = λ k e b c at y of known.
            let less = seq_rises (get_or ids n d) (get_or ids k e)
            (rises_at ids rising n k d e (omega (arith, b)) c) (site ∙ sym at) in
            let now : (get_or ids k e).seq ≤ entry y.past (get_or ids n d).site = subst
            (λ r. (get_or ids k e).seq ≤ entry y.past r) (at ∙ sym site) known in
            noted.unknowing y of (omega (arith, less, now));
        parted = λ x y of others. elim (of_more n s d x l of) [
          | inl old ↦ walked.parted x y old others
          | inr e ↦ met_now stop off x y (of_first (n + 1) s x of) e others
        ];
      }

      pub walk_conflicts : ConflictsWithTable h new (get_or ids n d) → ¬ (AreParted h ids ids s t)
      walk_conflicts q parted =
          let (y, of, direct) = table_tells h valid (take to ids) t new noted.tells (get_or ids n d)
          q in
          let here : IsOfSite h ids s q.op = record {
            contained = q.contained;
            among = subst (Contains ids) (sym q.id) (Contains-get_or ids n d l);
            site = ap (λ (j : OpId). j.site) q.id ∙ site;
          } in
          parted q.op y here (of_first to t y of) direct

  pub walk_ends : (s t n m : ℕ) (table : List (Option Latest)) → IsWalked h ids s t n m table
      → length ids ≤ n → AreParted h ids ids s t
  walk_ends s t n m table walked l = subst (λ js. AreParted h js ids s t) (take_all n ids l)
      walked.parted

-- ---- all sites

module _ (h : List Op) (valid : IsValid h) (ids : List OpId) where
  -- operations of one site are never concurrent
  one_site : (x y : Op) → Contains h x → Contains h y → x.id.site ≡ y.id.site
      → ¬ (DirectConflict x y)
  one_site x y i j e d =
      let own = valid.own x i in
      let other = valid.own y j in
      elim (cases_order x.id.seq y.id.seq) [
        | inl s ↦ d.concurrent.different
            (same_op h valid x y i j (λ k. record { site = e k; seq = s k }))
        | inr w ↦ elim w [
          | inl l ↦ d.concurrent.not_before (subst (λ k. x.id.seq ≤ entry y.past k) (sym e)
              (omega (arith, other, l)))
          | inr l ↦ d.concurrent.not_after
              (subst (λ k. y.id.seq ≤ entry x.past k) e (omega (arith, own, l)))
        ]
      ]

  pub all_calm : ((s : ℕ) → 1 ≤ s → s < 9 → ArePartedBelow h ids s s) → AreDirectlyCompatible h ids
  all_calm each x y i j c d direct =
      let here : IsOfSite h ids x.id.site x = record { contained = i; among = c; site = refl } in
      let there : IsOfSite h ids y.id.site y = record { contained = j; among = d; site = refl } in
      let (low, high) = site_in_range x (valid.in_range x i) in
      let (least, most) = site_in_range y (valid.in_range y j) in
      elim (cases_order x.id.site y.id.site) [
        | inl e ↦ one_site x y i j e direct
        | inr w ↦ elim w [
          | inl l ↦ each y.id.site least (omega (arith, most)) x.id.site low l y x there here
              (direct-sym x y direct)
          | inr l ↦ each x.id.site low (omega (arith, high)) y.id.site least l x y here there direct
        ]
      ]

-- what an operation may aim at is on one object
pub aimed_on_one : (h : List Op) → IsValid h → (a : Op) → MayAim h a (aim_of a)
    → AreOnOne h (aim_of a)
aimed_on_one h valid a may x y i j c d = on x i c ∙ sym (on y j d)
  where
    on : (z : Op) → Contains h z → Contains (aim_of a) z.id → object_of z ≡ object_of a
    on z k e = let t = (may z.id e).on in
        ap object_of (same_op h valid z t.op k t.contained (sym t.id)) ∙ t.such
