-- The class of each operation, and the members of each class.
use Rattle.std.proofs.Common.{◌≡◌, ℕ, ◌<◌, ◌+◌, ◌^◌, ◌==◌, Bool, true, List, [], ◌∷◌, ◌++◌}
use Rattle.std.proofs.Common.{length, get_or, set, refl, sym, ap, subst, inl, inr, ◌∙◌, arith}
use Rattle.std.specs.Prelude.{◌↔◌, ◌⊎◌, All, Contains, Option, Some, None, IfSome, slice_get}
use Rattle.std.specs.Prelude.{bytes_eq, slice_index_or}
use Rattle.std.proofs.lemmas.Bool.{cases_eq, cases_lt}
use Rattle.std.proofs.lemmas.Bool.Decides.{Decides-eqb}
use Rattle.std.proofs.lemmas.Slice.Eq.{bytes_eq-Decides}
use Rattle.std.proofs.lemmas.List.{get_or_append_left, get_or-set_same, get_or-set_other, length_push}
use Rattle.std.proofs.lemmas.List.{length-append, length-set, get_or_default}
use Rattle.std.proofs.lemmas.List.Elements.{Contains-get_or, Contains-push_cases}
use Rattle.std.proofs.lemmas.Option.{slice_get_within, slice_get_read}
use Rattle.std.proofs.Math.Seq.{get_or-append_seam}
use Rattle.gf_base.proofs.ListLemmas.{not_Contains-nil}
use Rattle.gf_maximal.specs.Growing.{is_within, joined}
use Rattle.gf_maximal.proofs.MaximalLemmas.{within}
use Rattle.gf_ops.specs.declared.op.Op.{Op}
use Rattle.gf_ops.specs.declared.op.OpId.{OpId}
use Rattle.gf_ops.specs.Attribute.{aim_of}
use Rattle.gf_ops.specs.ValidHistory.{IsValid}
use Rattle.gf_groups.proofs.PositionLemmas.{Contains-positions_on}
use Rattle.gf_classes.specs.Hiding.{hiding_site, hiding_site_of, hiding_site_at}
use Rattle.gf_classes.specs.Direct.{DirectState, class_at, place}
use Rattle.gf_classes.specs.Own.{AreGiven, AreOwn, IsNamed, Owns}
use Rattle.gf_classes.specs.ClassRows.{AreAllRows}
use Rattle.gf_classes.specs.ClassSlots.{JointsState, IsJointAt, KeepsJoints, IsCalm, AreCalm}
use Rattle.gf_classes.specs.ClassSlots.{IsOwnSlot, IsSlot, AreSlots}
use Rattle.gf_classes.specs.ClassSlots.{HasSlot, AreMembers}
use Rattle.gf_classes.proofs.OwnConflictLemmas.{own_calm}
use Rattle.gf_classes.proofs.OwnLemmas.{given_rising, owns_told, Contains-joined}

-- a number that some class is, has the bound that classes have
pub class_small : (r : Option ℕ) (n : ℕ) → ((k : ℕ) → r ≡ Some k → k < n) → n < 2 ^ 63
    → IfSome r (λ k. k + 1 < 2 ^ 64)
class_small (Some k) n f l = let b = f k refl in omega arith
class_small None n f l = tt

-- ---- the joint classes

-- a joint class that was read is there
pub joint_told : (js : JointsState) (owns : List (List ℕ)) (sites known own : List ℕ)
    (other site j : ℕ) → js.owns ≡ owns → js.sites ≡ sites → j < length owns
    → ((d : List ℕ) → known ≡ get_or owns j d) → j < length sites
    → ((d : ℕ) → other ≡ get_or sites j d) → other ≡ site → bytes_eq known own ≡ true
    → IsJointAt js own site j
joint_told js owns sites known own other site j e f l g m k q t =
    let same = (bytes_eq-Decides known own).0 t in
    record {
      brings = ap (λ z. slice_get z j) e
          ∙ (slice_get_read owns (length owns) j known refl l (g known) ∙ ap Some same);
      hides = ap (λ z. slice_get z j) f
          ∙ (slice_get_read sites (length sites) j other refl m (k other) ∙ ap Some q);
    }

pub calm_more : (rows old new : List (List ℕ)) (own : List ℕ) → new ≡ old ++ own ∷ []
    → IsCalm rows own → AreCalm rows old → AreCalm rows new
calm_more rows old new own e calm are g c k l m n =
    elim (Contains-push_cases old own g (subst (λ z. Contains z g) e c)) [
      | inl d ↦ are g d k l m n
      | inr q ↦ calm k l (subst (λ z. Contains z k) (sym q) m)
          (subst (λ z. Contains z l) (sym q) n)
    ]

-- ---- a class and the set of it

-- the class alone, where all classes are within the set of it
pub lone_told : (r : Option ℕ) (one own : List ℕ) → ((k : ℕ) → Contains one k ↔ (r ≡ Some k))
    → is_within own one ≡ true
    → IfSome r (λ k. (r ≡ Some k) × ((l : ℕ) → Contains own l → l ≡ k))
lone_told (Some k) one own f t = (
  refl,
  λ l c. let q = (f l).0 (within own one t l c) in let e : l ≡ k = cc in e,
)
lone_told None one own f t = tt

empty_by : (ids : List OpId) → (length ids == 0) ≡ true → ids ≡ []
empty_by [] t = refl
empty_by (x ∷ xs) t = let e = (Decides-eqb (length (x ∷ xs)) 0).0 t in absurd (omega arith)

-- what is_empty says of an aim
pub no_aim : (aim ids : List OpId) (b : Bool) → ids ≡ aim → b ≡ (length ids == 0) → b ≡ true
    → aim ≡ []
no_aim aim ids b e f t = sym e ∙ empty_by ids (sym f ∙ t)

module _ (h : List Op) (us : List ℕ) (s : DirectState) (given : AreGiven h us s) where
  -- the positions are those of operations
  pub in_bounds : (i : ℕ) → i < length us → place us i < length h
  in_bounds i l = ((Contains-positions_on h given.object (place us i)).0
      (subst (λ z. Contains z (place us i)) given.positions (Contains-get_or us i 0 l))).0

  -- what was read at a position stands there
  pub op_there : (i : ℕ) (ops : List Op) (a : Op) → i < length us → ops ≡ h
      → a ≡ get_or ops (place us i) a → slice_get h (place us i) ≡ Some a
  op_there i ops a l e f = slice_get_read h (length h) (place us i) a refl (in_bounds i l)
      (f ∙ ap (λ z. get_or z (place us i) a) e)

  pub named_small : (id : OpId) (k : ℕ) → length s.rows < 2 ^ 63 → IsNamed h us s id k
      → k + 1 < 2 ^ 64
  named_small id k l n = let b = given.direct.bound n.class.index k n.class.class in omega arith

  pub classes_small : (i : ℕ) (r : Option ℕ) → r ≡ class_at s i → length s.rows < 2 ^ 63
      → IfSome r (λ k. k + 1 < 2 ^ 64)
  classes_small i r e l =
      class_small r (length s.rows) (λ k f. given.direct.bound i k (sym e ∙ f)) l

  -- ---- one operation

  module _ (valid : IsValid h) (i : ℕ) (a : Op) (l : i < length us)
      (at : slice_get h (place us i) ≡ Some a) where
    -- one without an aim is of its own class alone
    pub plain_slot : (js : JointsState) (e : ℕ) → aim_of a ≡ [] → class_at s i ≡ Some e
        → IsSlot h us s js i e
    plain_slot js e none is = inl (record {
      class = is;
      only = λ k o. elim ((owns_told h us s valid (given_rising h us s given) i a l at k).1 o) [
        | inl c ↦ let q : Some e ≡ Some k = sym is ∙ c in let r : k ≡ e = cc in r
        | inr m ↦ absurd (not_Contains-nil m.op.id (subst (λ z. Contains z m.op.id) none m.among))
      ];
    })

    -- one is of the class that was made for it
    pub made_slot : (js : JointsState) (class : Option ℕ) (own : List ℕ) (n site e : ℕ)
        → class ≡ class_at s i → n ≡ length s.rows → site ≡ hiding_site a
        → AreOwn h us s class (aim_of a) own → IsOwnSlot n class own site js e
        → IsSlot h us s js i e
    made_slot js class own n site e is first hides own_are slot =
        let told = owns_told h us s valid (given_rising h us s given) i a l at in
        let to = λ (k : ℕ) (o : Owns h us s (place us i) k). (own_are k).1
        (elim ((told k).1 o) [ inl c ↦ inl (is ∙ c) | inr m ↦ inr m ]) in
        elim slot [
          | inl w ↦ inl (record { class = sym is ∙ w.0; only = λ k o. w.1 k (to k o) })
          | inr w ↦ inr (record {
            index = w.0;
            number = w.1 ∙ ap (λ z. z + w.0) first;
            own = own;
            at = subst (λ z. IsJointAt js own z w.0)
                (hides ∙ sym (ap hiding_site_of at)) w.2;
            owns = λ k. (
              λ c. (told k).0 (elim ((own_are k).0 c)
                  [ inl q ↦ inl (sym is ∙ q) | inr m ↦ inr m ]),
              to k,
            );
          })
        ]

    pub made_calm : (class : Option ℕ) (own : List ℕ) → class ≡ class_at s i
        → AreOwn h us s class (aim_of a) own → IsCalm s.rows own
    made_calm class own is own_are k m c d =
        let told = owns_told h us s valid (given_rising h us s given) i a l at in
        let from = λ (x : ℕ) (y : Contains own x). (told x).0 (elim ((own_are x).0 y)
        [ inl q ↦ inl (sym is ∙ q) | inr n ↦ inr n ]) in
        own_calm h us s valid given (place us i) k m (from k c) (from m d)

  -- ---- all operations

  slot_kept : (js new : JointsState) (i e : ℕ) → KeepsJoints js new → IsSlot h us s js i e
      → IsSlot h us s new i e
  slot_kept js new i e keeps t = elim t [
    | inl p ↦ inl p
    | inr j ↦ inr (record {
      index = j.index;
      number = j.number;
      own = j.own;
      at = keeps j.own (hiding_site_at h (place us i)) j.index j.at;
      owns = j.owns;
    })
  ]

  pub slots_more : (js new : JointsState) (es fs : List ℕ) (n e : ℕ) → AreSlots h us s js es n
      → KeepsJoints js new → (AreCalm s.rows js.owns → AreCalm s.rows new.owns)
      → IsSlot h us s new n e → fs ≡ es ++ e ∷ [] → AreSlots h us s new fs (n + 1)
  slots_more js new es fs n e are keeps calm slot f = record {
    count = ap length f ∙ (length_push es e ∙ ap (λ z. z + 1) are.count);
    each = λ i l. subst (λ z. IsSlot h us s new i (slice_index_or z i 0)) (sym f)
        (elim (cases_lt i n) [
          | inl m ↦ subst (IsSlot h us s new i)
              (sym (get_or_append_left es (e ∷ []) 0 i
              (let c = are.count in let q : i < length es = omega arith in q)))
              (slot_kept js new i (slice_index_or es i 0) keeps (are.each i m))
          | inr m ↦
              let c = are.count in
              let same : i ≡ n = omega arith in
              let last : slice_index_or (es ++ e ∷ []) i 0 ≡ e =
              ap (λ z. slice_index_or (es ++ e ∷ []) z 0) (same ∙ sym c)
              ∙ get_or-append_seam es e [] 0 in
              subst (λ z. IsSlot h us s new z (slice_index_or (es ++ e ∷ []) i 0)) (sym same)
              (subst (IsSlot h us s new n) (sym last) slot)
        ]);
    calm = calm are.calm;
  }

  pub slots_none : (js : JointsState) (es : List ℕ) → js.owns ≡ [] → es ≡ []
      → AreSlots h us s js es 0
  slots_none js es e f = record {
    count = ap length f;
    each = λ i l. absurd (omega arith);
    calm = λ own c. absurd (not_Contains-nil own (subst (λ z. Contains z own) e c));
  }

  -- each slot is the number of a class
  pub slots_small : (js : JointsState) (es : List ℕ) → AreSlots h us s js es (length us)
      → All (λ e. e < length s.rows + length js.owns) es
  slots_small js es are i d l =
      let c = are.count in
      let same = get_or_default es i d 0 l in
      subst (λ z. z < length s.rows + length js.owns) (sym same)
      (elim (are.each i (let q : i < length us = omega arith in q)) [
        | inl p ↦ let b = given.direct.bound i (slice_index_or es i 0) p.class in omega arith
        | inr j ↦ let b = slice_get_within js.owns j.index j.own j.at.brings in
            let e = j.number in omega arith
      ])

  -- how many rows there are bounds the slots
  pub slots_count : (js : JointsState) (es fs : List ℕ) (rows owns found : List (List ℕ)) (n : ℕ)
      → AreSlots h us s js es (length us) → fs ≡ es → rows ≡ s.rows → owns ≡ js.owns
      → AreAllRows rows owns found → n ≡ length found → All (λ e. e < n) fs
  slots_count js es fs rows owns found n are e f g all m =
      let count : n ≡ length s.rows + length js.owns =
      let a = all.front_rows.count in
      let b = all.back_count in
      let c = ap length all.all in
      let d = length-append all.front all.back in
      let x = ap length f in
      let y = ap length g in
      omega arith in
      subst (λ z. All (λ x. x < z) fs) (sym count)
      (subst (All (λ x. x < length s.rows + length js.owns)) (sym e) (slots_small js es are))

-- ---- the members

pub members_none : (us es : List ℕ) (k : ℕ) (ms : List (List ℕ)) → length ms ≡ k
    → ((e : ℕ) → slice_index_or ms e [] ≡ []) → AreMembers us es 0 k ms
members_none us es k ms count empty = record {
  count = count;
  each = λ e a. (
    λ c. absurd (not_Contains-nil a (subst (λ z. Contains z a) (empty e) c)),
    λ w. let b = w.bound in absurd (omega arith),
  );
}

module _ (us es : List ℕ) where
  slot_before : (n e a : ℕ) → HasSlot us es n e a → HasSlot us es (n + 1) e a
  slot_before n e a w = record {
    index = w.index;
    bound = let b = w.bound in omega arith;
    slot = w.slot;
    place = w.place;
  }

  slot_cases : (n e a : ℕ) → HasSlot us es (n + 1) e a
      → HasSlot us es n e a ⊎ ((slice_index_or es n 0 ≡ e) × (place us n ≡ a))
  slot_cases n e a w = elim (cases_lt w.index n) [
    | inl l ↦ inl (record { index = w.index; bound = l; slot = w.slot; place = w.place })
    | inr l ↦
        let b = w.bound in
        let same : n ≡ w.index = omega arith in
        inr (ap (λ z. slice_index_or es z 0) same ∙ w.slot, ap (place us) same ∙ w.place)
  ]

  slot_now : (n : ℕ) → HasSlot us es (n + 1) (slice_index_or es n 0) (place us n)
  slot_now n = record { index = n; bound = omega arith; slot = refl; place = refl }

  pub members_more : (n k : ℕ) (ms : List (List ℕ)) (old new : List ℕ)
      → AreMembers us es n k ms → slice_index_or es n 0 < k
      → slice_index_or ms (slice_index_or es n 0) [] ≡ old → new ≡ joined (place us n) old
      → AreMembers us es (n + 1) k (set ms (slice_index_or es n 0) new)
  members_more n k ms old new are l was now = record {
    count = length-set ms (slice_index_or es n 0) new ∙ are.count;
    each = each;
  }
    where
      m : ℕ
      m = slice_index_or es n 0

      within : m < length ms
      within = let c = are.count in omega arith

      each : (e a : ℕ) → Contains (slice_index_or (set ms m new) e []) a
          ↔ HasSlot us es (n + 1) e a
      each e a = elim (cases_eq e m) [
        | inl q ↦
            let is : slice_index_or (set ms m new) e [] ≡ joined (place us n) old =
            ap (λ z. slice_index_or (set ms m new) z []) q
            ∙ (get_or-set_same ms m new [] within ∙ now) in
            let before : slice_index_or ms e [] ≡ old =
            ap (λ z. slice_index_or ms z []) q ∙ was in (
              λ c. elim ((Contains-joined (place us n) old a).0 (subst (λ z. Contains z a) is c)) [
                | inl d ↦ slot_before n e a
                    ((are.each e a).0 (subst (λ z. Contains z a) (sym before) d))
                | inr d ↦ subst (λ z. HasSlot us es (n + 1) z a) (sym q)
                    (subst (HasSlot us es (n + 1) m) (sym d) (slot_now n))
              ],
              λ w. subst (λ z. Contains z a) (sym is) ((Contains-joined (place us n) old a).1
                  (elim (slot_cases n e a w) [
                    | inl v ↦ inl (subst (λ z. Contains z a) before ((are.each e a).1 v))
                    | inr v ↦ inr (sym v.1)
                  ])),
            )
        | inr q ↦
            let is = get_or-set_other ms m e new [] q in (
              λ c. slot_before n e a ((are.each e a).0 (subst (λ z. Contains z a) is c)),
              λ w. subst (λ z. Contains z a) (sym is) (elim (slot_cases n e a w) [
                | inl v ↦ (are.each e a).1 v
                | inr v ↦ absurd (q (sym v.0))
              ]),
            )
      ]
