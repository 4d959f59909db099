-- The classes that were made are those of the operations.
use Rattle.std.proofs.Common.{◌≡◌, ℕ, ◌<◌, ◌+◌, ◌^◌, true, List, length}
use Rattle.std.proofs.Common.{refl, sym, ap, subst, inl, inr, ◌∙◌, arith}
use Rattle.std.specs.Prelude.{◌↔◌, All, Contains, Some, slice_get, slice_index_or}
use Rattle.std.proofs.lemmas.Bool.{cases_Bool}
use Rattle.std.proofs.lemmas.Bool.Decides.{same_from_decides}
use Rattle.std.proofs.lemmas.List.{get_or_default}
use Rattle.std.proofs.lemmas.List.Elements.{Contains-get_or}
use Rattle.gf_base.proofs.PositionLemmas.{one_value, position_in, there_is}
use Rattle.gf_maximal.specs.Classes.{ClassesState, members_of}
use Rattle.gf_maximal.specs.Rows.{AreRows, conflict}
use Rattle.gf_ops.specs.declared.op.Op.{Op}
use Rattle.gf_ops.specs.ValidHistory.{IsValid}
use Rattle.gf_groups.specs.Growing.{conflict_at}
use Rattle.gf_classes.specs.Hiding.{hiding_site_at}
use Rattle.gf_classes.specs.Direct.{DirectState, place}
use Rattle.gf_classes.specs.ConflictClasses.{AreClassesOf}
use Rattle.gf_classes.specs.Own.{AreGiven, Owns}
use Rattle.gf_classes.specs.ClassSlots.{JointsState, IsSlot, AreSlots, HasSlot, AreMembers}
use Rattle.gf_classes.specs.ClassRows.{AreAllRows}
use Rattle.gf_classes.proofs.OwnConflictLemmas.{own_conflicts}
use Rattle.gf_classes.proofs.OwnLemmas.{given_rising, same_index, owns_told}
use Rattle.gf_classes.proofs.ClassRowLemmas.{HasOwn, HaveConflict, rows_told}
use Rattle.gf_classes.proofs.ClassSlotLemmas.{in_bounds}

-- two classes conflict where the other way round they do
turned_conflict : (rows owns : List (List ℕ)) (e f : ℕ) → AreRows rows
    → HaveConflict rows owns e f → HaveConflict rows owns f e
turned_conflict rows owns e f are c = record {
  one = c.other;
  other = c.one;
  brings_one = c.brings_other;
  brings_other = c.brings_one;
  conflict = are.symmetric c.other c.one ∙ c.conflict;
}

module _ (h : List Op) (us : List ℕ) (s : DirectState) (js : JointsState) (es : List ℕ)
    (ms found : List (List ℕ)) (valid : IsValid h) (given : AreGiven h us s)
    (slots : AreSlots h us s js es (length us)) (rows : AreAllRows s.rows js.owns found)
    (members : AreMembers us es (length us) (length found) ms) where
  -- ---- the rows

  calm_alone : (e : ℕ) → ¬ (HaveConflict s.rows js.owns e e)
  calm_alone e c = elim c.brings_one [
    | inl p ↦ elim c.brings_other [
      | inl q ↦
          let t : conflict s.rows e e ≡ true =
          subst (λ z. conflict s.rows z e ≡ true) p.1
          (subst (λ z. conflict s.rows c.one z ≡ true) q.1 c.conflict) in
          let f = given.direct.rows.alone e in absurd cc
      | inr q ↦ let b = p.0 in let n = q.number in absurd (omega arith)
    ]
    | inr p ↦ elim c.brings_other [
      | inl q ↦ let b = q.0 in let n = p.number in absurd (omega arith)
      | inr q ↦
          let m = p.number in
          let n = q.number in
          let same : q.index ≡ p.index = omega arith in
          let one = one_value js.owns p.index q.own p.own (subst (λ z. slice_get js.owns z
          ≡ Some q.own) same q.at) p.at in
          let t = c.conflict in
          let f = slots.calm p.own (position_in js.owns p.index p.own p.at) c.one c.other p.among
          (subst (λ z. Contains z c.other) one q.among) in absurd cc
    ]
  ]

  found_rows : AreRows found
  found_rows = record {
    symmetric = λ a b. same_from_decides (conflict found a b) (conflict found b a)
        (rows_told s.rows js.owns given.direct.rows found rows a b) (
          λ t. turned_conflict s.rows js.owns b a given.direct.rows
              ((rows_told s.rows js.owns given.direct.rows found rows b a).0 t),
          λ c. (rows_told s.rows js.owns given.direct.rows found rows b a).1
              (turned_conflict s.rows js.owns a b given.direct.rows c),
        );
    alone = λ a. elim (cases_Bool (conflict found a a)) [
      | inl t ↦ absurd (calm_alone a
          ((rows_told s.rows js.owns given.direct.rows found rows a a).0 t))
      | inr f ↦ f
    ];
  }

  -- ---- the class of an operation has what it brings

  slot_own : (i : ℕ) (l : i < length us) (k : ℕ)
      → HasOwn (length s.rows) js.owns (slice_index_or es i 0) k ↔ Owns h us s (place us i) k
  slot_own i l k =
      let e = slice_index_or es i 0 in
      elim (slots.each i l) [
        | inl p ↦
            let b = given.direct.bound i e p.class in
            let a = there_is h (place us i) (in_bounds h us s given i l) in (
              λ o. elim o [
                | inl q ↦ (owns_told h us s valid (given_rising h us s given) i a.0 l a.1 k).0
                    (inl (p.class ∙ ap Some (sym q.1)))
                | inr w ↦ let n = w.number in absurd (omega arith)
              ],
              λ o. inl (b, p.only k o),
            )
        | inr j ↦
            let n = j.number in (
              λ o. elim o [
                | inl q ↦ let b = q.0 in absurd (omega arith)
                | inr w ↦
                    let m = w.number in
                    let same : w.index ≡ j.index = omega arith in
                    let one = one_value js.owns j.index w.own j.own (subst (λ z. slice_get js.owns z
                    ≡ Some w.own) same w.at) j.at.brings in
                    (j.owns k).0 (subst (λ z. Contains z k) one w.among)
              ],
              λ o. inr (record {
                index = j.index;
                number = j.number;
                own = j.own;
                at = j.at.brings;
                among = (j.owns k).1 o;
              }),
            )
      ]

  -- two operations conflict where their classes do
  slots_conflict : (i j : ℕ) → i < length us → j < length us
      → conflict_at h (place us i) (place us j)
      ≡ conflict found (slice_index_or es i 0) (slice_index_or es j 0)
  slots_conflict i j l m =
      let p = place us i in
      let q = place us j in
      let e = slice_index_or es i 0 in
      let f = slice_index_or es j 0 in
      let told = rows_told s.rows js.owns given.direct.rows found rows e f in
      same_from_decides (conflict_at h p q) (conflict found e f)
      (own_conflicts h us s valid given p q (Contains-get_or us i 0 l) (Contains-get_or us j 0 m)) (
        λ t. let c = told.0 t in record {
          one = c.one;
          other = c.other;
          owns_one = (slot_own i l c.one).0 c.brings_one;
          owns_other = (slot_own j m c.other).0 c.brings_other;
          conflict = c.conflict;
        },
        λ c. told.1 (record {
          one = c.one;
          other = c.other;
          brings_one = (slot_own i l c.one).1 c.owns_one;
          brings_other = (slot_own j m c.other).1 c.owns_other;
          conflict = c.conflict;
        }),
      )

  -- ---- operations of one class

  slots_parted : (i j e : ℕ) → IsSlot h us s js i e → IsSlot h us s js j e
      → hiding_site_at h (place us i) ≡ hiding_site_at h (place us j)
  slots_parted i j e a b = elim a [
    | inl p ↦ elim b [
      | inl q ↦ given.direct.parted i j e p.class q.class
      | inr q ↦ let l = given.direct.bound i e p.class in let n = q.number in absurd (omega arith)
    ]
    | inr p ↦ elim b [
      | inl q ↦ let l = given.direct.bound j e q.class in let n = p.number in absurd (omega arith)
      | inr q ↦
          let m = p.number in
          let n = q.number in
          let same : q.index ≡ p.index = omega arith in
          one_value js.sites p.index (hiding_site_at h (place us i)) (hiding_site_at h (place us j))
          p.at.hides (subst (λ z. slice_get js.sites z ≡ Some (hiding_site_at h (place us j))) same
          q.at.hides)
    ]
  ]

  -- ---- the members

  abbrev state : ClassesState
  state = record { members = ms; rows = found }

  member : (k a : ℕ) → Contains (members_of state k) a → HasSlot us es (length us) k a
  member k a c = (members.each k a).0 c

  member_placed : (a : ℕ) → Contains us a ↔ ((k : ℕ) × Contains (members_of state k) a)
  member_placed a = (
    λ c.
        let e = slice_index_or es c.0 0 in (
          e,
          (members.each e a).1 (record {
            index = c.0;
            bound = c.1;
            slot = refl;
            place = get_or_default us c.0 0 a c.1 ∙ c.2;
          }),
        ),
    λ w. let m = member w.0 a w.1 in
        subst (Contains us) m.place (Contains-get_or us m.index 0 m.bound),
  )

  member_once : (j k a : ℕ) → Contains (members_of state j) a → Contains (members_of state k) a
      → j ≡ k
  member_once j k a c d =
      let m = member j a c in
      let n = member k a d in
      let same = same_index us (given_rising h us s given) m.index n.index m.bound n.bound
      (m.place ∙ sym n.place) in
      sym m.slot ∙ (ap (λ z. slice_index_or es z 0) same ∙ n.slot)

  members_conflict : (j k a b : ℕ) → Contains (members_of state j) a
      → Contains (members_of state k) b → conflict_at h a b ≡ conflict found j k
  members_conflict j k a b c d =
      let m = member j a c in
      let n = member k b d in
      ap (λ z. conflict_at h z b) (sym m.place)
      ∙ (ap (conflict_at h (place us m.index)) (sym n.place)
      ∙ (slots_conflict m.index n.index m.bound n.bound
      ∙ (ap (λ z. conflict found z (slice_index_or es n.index 0)) m.slot
      ∙ ap (conflict found j) n.slot)))

  -- THE CLASSES ARE THOSE OF THE OPERATIONS
  pub classes_made : AreClassesOf h us state
  classes_made = record {
    classes = record {
      rows = found_rows;
      count = sym members.count;
      placed = member_placed;
      once = member_once;
      conflicts = members_conflict;
    };
    parted = λ k a b c d.
        let m = member k a c in
        let n = member k b d in
        ap (hiding_site_at h) (sym m.place)
        ∙ (slots_parted m.index n.index k
        (subst (IsSlot h us s js m.index) m.slot (slots.each m.index m.bound))
        (subst (IsSlot h us s js n.index) n.slot (slots.each n.index n.bound))
        ∙ ap (hiding_site_at h) n.place);
  }

-- the positions have the bound of what sets hold
pub positions_small : (h : List Op) (us : List ℕ) (s : DirectState) (ops : List Op)
    → AreGiven h us s → ops ≡ h → length ops < 2 ^ 64 → All (λ n. n + 1 < 2 ^ 64) us
positions_small h us s ops given e l i d m =
    let b = in_bounds h us s given i m in
    let f = get_or_default us i d 0 m in
    let g = ap length e in
    omega arith
