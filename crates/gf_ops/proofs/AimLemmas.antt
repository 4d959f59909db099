-- Aims: one walk tells whether one lies within another, and what an operation in range aims at
-- rises.
use Rattle.std.proofs.Common.{◌≡◌, ◌≢◌, ℕ, ◌<◌, ◌≤◌, Bool, true, false, ◌&&◌, ◌==◌, List, [], ◌∷◌}
use Rattle.std.proofs.Common.{refl, sym, ap, subst, ◌∙◌, inl, inr, arith, true≢false}
use Rattle.std.specs.Prelude.{◌⊎◌, ◌↔◌, ◌+◌, drop, Contains, IsTrue, nat_le, length}
use Rattle.std.specs.Prelude.{slice_index_or}
use Rattle.std.specs.List.{fold, list_all}
use Rattle.std.specs.Ordering.{is_lt}
use Rattle.std.proofs.lemmas.Bool.{cases_Bool, cases_lt, cond-true, cond-false, and_parts, and_from}
use Rattle.std.proofs.lemmas.Bool.Decides.{Decides-eqb, nat_tests}
use Rattle.std.proofs.lemmas.List.{at_drop_more, at_drop_all, get_or_default}
use Rattle.gf_ops.specs.declared.op.Op.{Op}
use Rattle.gf_ops.specs.declared.op.OpId.{OpId}
use Rattle.gf_ops.specs.declared.change.Change.{Change}
use Rattle.gf_ops.specs.declared.change.Change.TheVariants.{Create, Set}
use Rattle.gf_ops.specs.Aims.{MayAimAt}
use Rattle.gf_ops.specs.AimTests.{after_id, IsWithinAim, FitsAim, ConflictsAt, MemberConflicts}
use Rattle.gf_ops.specs.AimTests.{AimConflicts}
use Rattle.gf_ops.specs.Attribute.{change_aim, aim_of}
use Rattle.gf_ops.specs.Limits.{is_id, is_clock, is_value, is_change, is_aim, IsInRange}
use Rattle.gf_ops.specs.OperationOrder.{id_cmp, rises}
use Rattle.gf_ops.specs.Conflict.{Conflict, ConflictsWithBrought}
use Rattle.gf_ops.specs.DirectConflict.{DirectConflict}
use Rattle.gf_ops.specs.ValidHistory.{IsValid}
use Rattle.gf_base.proofs.ListLemmas.{Contains-cons_cases, Contains-cons_head, Contains-cons_tail}
use Rattle.gf_base.proofs.ListLemmas.{not_Contains-nil}
use Rattle.gf_ops.proofs.ValidityLemmas.{same_op}

-- ---- the order of ids

-- i is before j
abbrev pub id_less : OpId → OpId → Bool
id_less i j = is_lt (id_cmp i j)

pub less_told : (i j : OpId) → id_less i j ≡ true
    → (i.site < j.site) ⊎ ((i.site ≡ j.site) × (i.seq < j.seq))
less_told i j t = grind (arith, nat_tests, t)

less_from : (i j : OpId) → (i.site < j.site) ⊎ ((i.site ≡ j.site) × (i.seq < j.seq))
    → id_less i j ≡ true
less_from i j w = grind (arith, nat_tests, w)

less_trans : (i j k : OpId) → id_less i j ≡ true → id_less j k ≡ true → id_less i k ≡ true
less_trans i j k l m = less_from i k (elim (less_told i j l) [
  | inl a ↦ elim (less_told j k m) [
    | inl b ↦ inl (omega arith)
    | inr b ↦ let e = b.0 in inl (omega arith)
  ]
  | inr a ↦ let e = a.0 in let f = a.1 in elim (less_told j k m) [
    | inl b ↦ inl (omega arith)
    | inr b ↦ let g = b.0 in let n = b.1 in inr (omega arith, omega arith)
  ]
])

less_not : (i j : OpId) → id_less i j ≡ true → i ≢ j
less_not i j l e =
    let s : i.site ≡ j.site = ap (λ (k : OpId). k.site) e in
    let n : i.seq ≡ j.seq = ap (λ (k : OpId). k.seq) e in
    elim (less_told i j l) [
      | inl a ↦ absurd (omega arith)
      | inr a ↦ let b = a.1 in absurd (omega arith)
    ]

-- ---- rising ids

pub behind : (i : OpId) (is : List OpId) → rises id_cmp (i ∷ is) ≡ true → (j : OpId) → Contains is j
    → id_less i j ≡ true
behind i [] t j c = absurd (not_Contains-nil j c)
behind i (k ∷ ks) t j c =
    let p = and_parts (id_less i k) (rises id_cmp (k ∷ ks)) t in
    elim (Contains-cons_cases k ks j c) [
      | inl e ↦ subst (λ l. id_less i l ≡ true) (sym e) p.0
      | inr d ↦ less_trans i k j p.0 (behind k ks p.1 j d)
    ]

pub rises_tail : (i : OpId) (is : List OpId) → rises id_cmp (i ∷ is) ≡ true → rises id_cmp is ≡ true
rises_tail i [] t = refl
rises_tail i (j ∷ js) t = (and_parts (id_less i j) (rises id_cmp (j ∷ js)) t).1

-- ---- one walk

module _ (i k : OpId) (is : List OpId) where
  abbrev met : Bool
  met = i.site == k.site && i.seq == k.seq

  met_same : met ≡ true → i ≡ k
  met_same t =
      let p = and_parts (i.site == k.site) (i.seq == k.seq) t in
      let s = (Decides-eqb i.site k.site).0 p.0 in
      let n = (Decides-eqb i.seq k.seq).0 p.1 in
      λ j. record { site = s j; seq = n j }

  met_other : met ≡ false → i ≢ k
  met_other f e =
      let s = (Decides-eqb i.site k.site).1 (ap (λ (j : OpId). j.site) e) in
      let n = (Decides-eqb i.seq k.seq).1 (ap (λ (j : OpId). j.seq) e) in
      let t = and_from (i.site == k.site) (i.seq == k.seq) s n in absurd (true≢false (sym t ∙ f))

  met_step : met ≡ true → after_id (i ∷ is) k ≡ is
  met_step t = cond-true met is (i ∷ is) t

  other_step : met ≡ false → after_id (i ∷ is) k ≡ i ∷ is
  other_step f = cond-false met is (i ∷ is) f

-- what is not left was met
left_or_met : (is js : List OpId) (j : OpId) → Contains is j → Contains (fold after_id is js) j
    ⊎ Contains js j
left_or_met is [] j c = inl c
left_or_met [] (k ∷ ks) j c = absurd (not_Contains-nil j c)
left_or_met (i ∷ is) (k ∷ ks) j c = elim (cases_Bool (met i k is)) [
  | inl t ↦ elim (Contains-cons_cases i is j c) [
    | inl e ↦ inr (subst (Contains (k ∷ ks)) (sym (e ∙ met_same i k is t))
        (Contains-cons_head k ks))
    | inr d ↦ elim (left_or_met is ks j d) [
      | inl l ↦ inl (subst (λ xs. Contains (fold after_id xs ks) j) (sym (met_step i k is t)) l)
      | inr m ↦ inr (Contains-cons_tail k ks j m)
    ]
  ]
  | inr f ↦ elim (left_or_met (i ∷ is) ks j c) [
    | inl l ↦ inl (subst (λ xs. Contains (fold after_id xs ks) j) (sym (other_step i k is f)) l)
    | inr m ↦ inr (Contains-cons_tail k ks j m)
  ]
]

none_left : (is js : List OpId) → fold after_id is js ≡ [] → IsWithinAim is js
none_left is js e j c = elim (left_or_met is js j c) [
  | inl l ↦ absurd (not_Contains-nil j (subst (λ xs. Contains xs j) e l))
  | inr m ↦ m
]

-- and where all rise, what lies within is met
all_met : (js is : List OpId) → rises id_cmp is ≡ true → rises id_cmp js ≡ true → IsWithinAim is js
    → fold after_id is js ≡ []
all_met [] [] r s w = refl
all_met [] (i ∷ is) r s w = absurd (not_Contains-nil i (w i (Contains-cons_head i is)))
all_met (k ∷ ks) [] r s w = all_met ks [] r (rises_tail k ks s)
    (λ j c. absurd (not_Contains-nil j c))
all_met (k ∷ ks) (i ∷ is) r s w = elim (cases_Bool (met i k is)) [
  | inl t ↦
      let within : IsWithinAim is ks = λ j c.
      elim (Contains-cons_cases k ks j (w j (Contains-cons_tail i is j c))) [
        | inl e ↦ absurd (less_not i j (behind i is r j c) (met_same i k is t ∙ sym e))
        | inr d ↦ d
      ] in
      subst (λ xs. fold after_id xs ks ≡ []) (sym (met_step i k is t))
      (all_met ks is (rises_tail i is r) (rises_tail k ks s) within)
  | inr f ↦
      let other = met_other i k is f in
      let first : Contains ks i = elim (Contains-cons_cases k ks i (w i (Contains-cons_head i is)))
      [ inl e ↦ absurd (other e) | inr d ↦ d ] in
      let above = behind k ks s i first in
      let within : IsWithinAim (i ∷ is) ks = λ j c. elim (Contains-cons_cases k ks j (w j c)) [
        | inl e ↦ elim (Contains-cons_cases i is j c) [
          | inl g ↦ absurd (other (sym g ∙ e))
          | inr d ↦ absurd (less_not i i
              (less_trans i k i (subst (λ l. id_less i l ≡ true) e (behind i is r j d)) above) refl)
        ]
        | inr d ↦ d
      ] in
      subst (λ xs. fold after_id xs ks ≡ []) (sym (other_step i k is f))
      (all_met ks (i ∷ is) r (rises_tail k ks s) within)
]

pub within_told : (is js : List OpId) → rises id_cmp is ≡ true → rises id_cmp js ≡ true
    → (fold after_id is js ≡ []) ↔ IsWithinAim is js
within_told is js r s = (none_left is js, all_met js is r s)

-- a list is empty where it has no element
pub empty_told : (t : Bool) (is : List OpId) → t ≡ (length is == 0) → (IsTrue t) ↔ (is ≡ [])
empty_told t [] e = (λ p. refl, λ p. e)
empty_told t (i ∷ is) e = (
  λ p. let z = (Decides-eqb (length (i ∷ is)) 0).0 (sym e ∙ p) in absurd (omega arith),
  λ p. absurd (not_Contains-nil i (subst (λ xs. Contains xs i) p (Contains-cons_head i is))),
)

-- ---- what is in range

change_rises : (c : Change) → is_change c ≡ true → rises id_cmp (change_aim c) ≡ true
change_rises (Create start) t = refl
change_rises (Set o v aim) t =
    let p = and_parts (is_id o.0 && is_value v) (is_aim aim) t in
    (and_parts (nat_le (length aim) 1000 && list_all is_id aim) (rises id_cmp aim) p.1).1

pub aim_rises : (a : Op) → IsInRange a → rises id_cmp (aim_of a) ≡ true
aim_rises a t = change_rises a.change
    (and_parts (is_id a.id && is_clock a.past) (is_change a.change) t).1

-- ---- the loop that looks whether ids rise

module _ (first last : OpId) (is : List OpId) (k : ℕ) (d : OpId)
    (same : rises id_cmp (last ∷ drop k is) ≡ rises id_cmp (first ∷ is)) where
  pub rise_stops : k < length is → id_less last (slice_index_or is k d) ≡ false
      → false ≡ rises id_cmp (first ∷ is)
  rise_stops l off = sym (at_drop_more (λ js. rises id_cmp (last ∷ js)) is k d l
      ∙ ap (λ b. b && rises id_cmp (slice_index_or is k d ∷ drop (k + 1) is)) off) ∙ same

  pub rise_more : k < length is → id_less last (slice_index_or is k d) ≡ true
      → rises id_cmp (slice_index_or is k d ∷ drop (k + 1) is) ≡ rises id_cmp (first ∷ is)
  rise_more l on = sym (at_drop_more (λ js. rises id_cmp (last ∷ js)) is k d l
      ∙ ap (λ b. b && rises id_cmp (slice_index_or is k d ∷ drop (k + 1) is)) on) ∙ same

  pub rise_ends : length is ≤ k → true ≡ rises id_cmp (first ∷ is)
  rise_ends l = sym (at_drop_all (λ js. rises id_cmp (last ∷ js)) is k l) ∙ same

-- ---- the operation under an id

pub same_fact : {P Q R : Type 0} → P ↔ Q → Q ↔ R → P ↔ R
same_fact e f = (λ p. f.0 (e.0 p), λ r. e.1 (f.1 r))

pub never : {P : Type 0} → ¬ P → IsTrue false ↔ P
never n = (λ t. absurd (true≢false (sym t)), λ p. absurd (n p))

module _ (h : List Op) (valid : IsValid h) (m : Op) (there : Contains h m) (i : OpId)
    (id : m.id ≡ i) where
  only : (x : Op) → Contains h x → x.id ≡ i → x ≡ m
  only x c e = same_op h valid x m c there (e ∙ sym id)

  pub conflict_found : (a : Op) → DirectConflict a m ↔ ConflictsAt h a i
  conflict_found a = (
    λ d. record { op = m; contained = there; id = id; direct = d },
    λ t. subst (DirectConflict a) (only t.op t.contained t.id) t.direct,
  )

  pub brought_found : (b : Op) → ConflictsWithBrought h m b ↔ MemberConflicts h i b
  brought_found b = (
    λ d. record { op = m; contained = there; id = id; conflicts = d },
    λ t. subst (λ x. ConflictsWithBrought h x b) (only t.op t.contained t.id) t.conflicts,
  )

-- ---- the ids of an aim

-- P holds of the first n ids
abbrev pub AllBefore : (OpId → Type 0) → List OpId → ℕ → Type 0
AllBefore P ids n = (k : ℕ) (d : OpId) → k < n → k < length ids → P (slice_index_or ids k d)

-- what holds of all ids before the last holds of each
pub all_before_all : (P : OpId → Type 0) (ids : List OpId) (n : ℕ) → AllBefore P ids n
    → length ids ≤ n → (i : OpId) → Contains ids i → P i
all_before_all P ids n f e i (k, l, at) = subst P at (f k i (omega arith) l)

pub all_before_more : (P : OpId → Type 0) (ids : List OpId) (n : ℕ) (e : OpId) → n < length ids
    → AllBefore P ids n → P (slice_index_or ids n e) → AllBefore P ids (n + 1)
all_before_more P ids n e l f p k d m b = elim (cases_lt k n) [
  | inl less ↦ f k d less b
  | inr more ↦ let s : k ≡ n = omega arith in
      subst P (sym (ap (λ j. slice_index_or ids j d) s ∙ get_or_default ids n d e l)) p
]

pub aim_conflict : (h : List Op) (a b : Op) → AimConflicts h (aim_of a) b → Conflict h a b
aim_conflict h a b t = record {
  first = t.op;
  second = t.conflicts.second;
  brings_first = inr (record { contained = t.contained; aimed = t.among });
  brings_second = t.conflicts.brings;
  direct = t.conflicts.direct;
}

pub conflict_aim : (h : List Op) (a b : Op) → ¬ (ConflictsWithBrought h a b) → Conflict h a b
    → AimConflicts h (aim_of a) b
conflict_aim h a b off c = elim c.brings_first [
  | inl e ↦
      absurd (off (record {
        second = c.second;
        brings = c.brings_second;
        direct = subst (λ x. DirectConflict x c.second) e c.direct;
      }))
  | inr m ↦ record {
    op = c.first;
    contained = m.contained;
    among = m.aimed;
    conflicts = record { second = c.second; brings = c.brings_second; direct = c.direct };
  }
]

-- a part of the tests of one that a may aim at
pub fits_told : (h : List Op) → IsValid h → (m : Op) → Contains h m → (i : OpId) → m.id ≡ i
    → (a : Op) → FitsAim a m ↔ MayAimAt h a i
fits_told h valid m there i id a = (
  λ f. record {
    on = record { op = m; contained = there; id = id; such = f.object };
    before = f.before;
    within = f.within;
  },
  λ t.
      let same = same_op h valid t.on.op m t.on.contained there (t.on.id ∙ sym id) in
      subst (FitsAim a) same (record { object = t.on.such; before = t.before; within = t.within }),
)
