-- Two operations on an object conflict where a class that one brings conflicts with a class that the
-- other brings.
use Rattle.std.proofs.Common.{◌≡◌, ℕ, ◌<◌, true, false, List, length, refl, sym, ap, subst}
use Rattle.std.proofs.Common.{inl, inr, ◌∙◌}
use Rattle.std.proofs.lemmas.Bool.{cases_Bool}
use Rattle.std.specs.Prelude.{◌↔◌, ◌⊎◌, Contains, Option, Some, None, slice_get}
use Rattle.std.proofs.lemmas.Option.{slice_get_within, get_or_from_slice_get}
use Rattle.gf_base.proofs.PositionLemmas.{contained_at, position_of}
use Rattle.gf_maximal.specs.Rows.{conflict}
use Rattle.gf_ops.specs.declared.op.Op.{Op}
use Rattle.gf_ops.specs.Attribute.{object_of}
use Rattle.gf_ops.specs.Aims.{Brings}
use Rattle.gf_ops.specs.Conflict.{Conflict}
use Rattle.gf_ops.specs.DirectConflict.{DirectConflict}
use Rattle.gf_ops.specs.ValidHistory.{IsValid}
use Rattle.gf_ops.proofs.ConflictLemmas.{conflict_irreflexive}
use Rattle.gf_ops.proofs.DirectConflictLemmas.{direct-sym}
use Rattle.gf_ops.proofs.ValidityLemmas.{same_op}
use Rattle.gf_groups.specs.Growing.{conflict_at}
use Rattle.gf_table.specs.Positions.{is_on}
use Rattle.gf_groups.proofs.ConflictTestLemmas.{direct_decided}
use Rattle.gf_groups.proofs.OnPositionLemmas.{on_to, on_op, position_of_op, conflict_from}
use Rattle.gf_groups.proofs.OnPositionLemmas.{conflict_with, all_positions}
use Rattle.gf_classes.specs.Direct.{DirectState, both_direct, direct_at, class_at, place}
use Rattle.gf_classes.specs.Own.{AreGiven, Owns}

-- what two operations bring has classes that conflict
pub record OwnConflict (h : List Op) (us : List ℕ) (s : DirectState) (p q : ℕ) : Type 0 where
  pub one : ℕ
  pub other : ℕ
  pub owns_one : Owns h us s p one
  pub owns_other : Owns h us s q other
  pub conflict : conflict s.rows one other ≡ true

-- ---- direct conflicts of what stands at positions

direct_there : (r q : Option Op) (a b : Op) → r ≡ Some a → q ≡ Some b → DirectConflict a b
    → both_direct r q ≡ true
direct_there r q a b e f d = rw (e, f) ((direct_decided a b).1 d)

direct_told : (r q : Option Op) (a b : Op) → r ≡ Some a → q ≡ Some b → both_direct r q ≡ true
    → DirectConflict a b
direct_told r q a b e f t = (direct_decided a b).0 (rw (e, f) at t)

-- the number that stands at an index
pub placed_at : (us : List ℕ) (i p : ℕ) → slice_get us i ≡ Some p
    → (i < length us) × (place us i ≡ p)
placed_at us i p e = (slice_get_within us i p e, get_or_from_slice_get us i p 0 e)

-- the class, if there is one
class_cases : (r : Option ℕ) → (r ≡ None) ⊎ ((k : ℕ) × (r ≡ Some k))
class_cases (Some k) = inr (k, refl)
class_cases None = inl refl

module _ (h : List Op) (us : List ℕ) (s : DirectState) (valid : IsValid h)
    (given : AreGiven h us s) where
  -- an operation at one of the positions is on the object
  on_object : (p : ℕ) → Contains us p → is_on given.object (slice_get h p) ≡ true
  on_object p c = (all_positions h given.object p).0
      (subst (λ z. Contains z p) given.positions c)

  -- what an operation on the object brings is on it
  brought_on : (a x : Op) → object_of a ≡ given.object → Contains h a → Brings h a x
      → (object_of x ≡ given.object) × Contains h x
  brought_on a x on there b = elim b [
    | inl e ↦ (ap object_of e ∙ on, subst (Contains h) (sym e) there)
    | inr m ↦ let w = ((valid.aimed a there).each x.id m.aimed).on in (
      ap object_of (sym (same_op h valid w.op x w.contained m.contained w.id)) ∙ (w.such ∙ on),
      m.contained,
    )
  ]

  -- an operation on the object stands at an index of the positions
  pub indexed : (x : Op) → object_of x ≡ given.object → Contains h x
      → (p : ℕ) × (i : ℕ) × (slice_get h p ≡ Some x) × (slice_get us i ≡ Some p)
  indexed x on there =
      let w = position_of_op h x there in
      let c = (all_positions h given.object w.0).1
      (subst (λ r. is_on given.object r ≡ true) (sym w.1) (on_to given.object x on)) in
      let i = position_of us w.0 (subst (λ z. Contains z w.0) (sym given.positions) c) in
      (w.0, i.0, w.1, i.1)

  direct_from : (x y : Op) (p q i j : ℕ) → slice_get h p ≡ Some x → slice_get h q ≡ Some y
      → slice_get us i ≡ Some p → slice_get us j ≡ Some q → DirectConflict x y
      → direct_at h (place us i) (place us j) ≡ true
  direct_from x y p q i j e f k l d =
      let m = (placed_at us i p k).1 in
      let n = (placed_at us j q l).1 in
      direct_there (slice_get h (place us i)) (slice_get h (place us j)) x y
      (ap (slice_get h) m ∙ e) (ap (slice_get h) n ∙ f) d

  classed : (x y : Op) (p q i j : ℕ) → slice_get h p ≡ Some x → slice_get h q ≡ Some y
      → slice_get us i ≡ Some p → slice_get us j ≡ Some q → DirectConflict x y
      → (k : ℕ) × (class_at s i ≡ Some k)
  classed x y p q i j e f k l d = elim (class_cases (class_at s i)) [
    | inl none ↦
        let t = direct_from x y p q i j e f k l d in
        let g = given.direct.free i j (placed_at us i p k).0 (placed_at us j q l).0 none in
        absurd cc
    | inr some ↦ some
  ]

  rows_from : (x y : Op) (p q i j k l : ℕ) → slice_get h p ≡ Some x → slice_get h q ≡ Some y
      → slice_get us i ≡ Some p → slice_get us j ≡ Some q → class_at s i ≡ Some k
      → class_at s j ≡ Some l → DirectConflict x y → conflict s.rows k l ≡ true
  rows_from x y p q i j k l a b c d e f direct = sym (given.direct.conflicts i j k l e f)
      ∙ direct_from x y p q i j a b c d direct

  -- two operations that conflict bring such classes
  own_from : (p q : ℕ) → Contains us p → Contains us q → conflict_at h p q ≡ true
      → OwnConflict h us s p q
  own_from p q c d t =
      let a = on_op given.object (slice_get h p) (on_object p c) in
      let b = on_op given.object (slice_get h q) (on_object q d) in
      let w = conflict_with h p q a.0 a.1 t in
      let same : w.0 ≡ b.0 = let z : Some w.0 ≡ Some b.0 = sym w.1 ∙ b.1 in cc in
      let k = w.2 in
      let x = brought_on a.0 k.first a.2 (contained_at h p a.0 a.1) k.brings_first in
      let y = brought_on w.0 k.second (ap object_of same ∙ b.2) (contained_at h q w.0 w.1)
      k.brings_second in
      let i = indexed k.first x.0 x.1 in
      let j = indexed k.second y.0 y.1 in
      let one = classed k.first k.second i.0 j.0 i.1 j.1 i.2 j.2 i.3 j.3 k.direct in
      let other = classed k.second k.first j.0 i.0 j.1 i.1 j.2 i.2 j.3 i.3
      (direct-sym k.first k.second k.direct) in
      record {
        one = one.0;
        other = other.0;
        owns_one = record {
          op = a.0;
          at = a.1;
          first = k.first;
          brings = k.brings_first;
          position = i.0;
          at_first = i.2;
          class = record { index = i.1; at = i.3; class = one.1 };
        };
        owns_other = record {
          op = w.0;
          at = w.1;
          first = k.second;
          brings = k.brings_second;
          position = j.0;
          at_first = j.2;
          class = record { index = j.1; at = j.3; class = other.1 };
        };
        conflict = rows_from k.first k.second i.0 j.0 i.1 j.1 one.0 other.0 i.2 j.2 i.3 j.3 one.1
            other.1 k.direct;
      }

  -- what brings classes that conflict is in conflict
  owned_conflict : (p q : ℕ) (o : OwnConflict h us s p q)
      → Conflict h o.owns_one.op o.owns_other.op
  owned_conflict p q o =
      let x = o.owns_one in
      let y = o.owns_other in
      let m = placed_at us x.class.index x.position x.class.at in
      let n = placed_at us y.class.index y.position y.class.at in
      record {
        first = x.first;
        second = y.first;
        brings_first = x.brings;
        brings_second = y.brings;
        direct = direct_told (slice_get h (place us x.class.index))
            (slice_get h (place us y.class.index)) x.first y.first
            (ap (slice_get h) m.1 ∙ x.at_first) (ap (slice_get h) n.1 ∙ y.at_first)
            (given.direct.conflicts x.class.index y.class.index o.one o.other x.class.class
            y.class.class ∙ o.conflict);
      }

  -- TWO OPERATIONS CONFLICT WHERE CLASSES THAT THEY BRING DO
  pub own_conflicts : (p q : ℕ) → Contains us p → Contains us q
      → (conflict_at h p q ≡ true) ↔ OwnConflict h us s p q
  own_conflicts p q c d = (
    own_from p q c d,
    λ o. conflict_from h valid p q o.owns_one.op o.owns_other.op o.owns_one.at o.owns_other.at
        (owned_conflict p q o),
  )

  -- classes that one operation brings do not conflict
  pub own_calm : (p k l : ℕ) → Owns h us s p k → Owns h us s p l → conflict s.rows k l ≡ false
  own_calm p k l x y = elim (cases_Bool (conflict s.rows k l)) [
    | inl t ↦
        let o : OwnConflict h us s p p =
        record { one = k; other = l; owns_one = x; owns_other = y; conflict = t } in
        let one : y.op ≡ x.op = let z : Some y.op ≡ Some x.op = sym y.at ∙ x.at in cc in
        absurd (conflict_irreflexive h valid x.op (contained_at h p x.op x.at)
        (subst (Conflict h x.op) one (owned_conflict p p o)))
    | inr f ↦ f
  ]
