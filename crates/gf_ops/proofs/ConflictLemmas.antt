-- Conflicts: what an operation of a valid history brings is compatible, and what conflicts with
-- something that it aims at conflicts with it.
use Rattle.std.proofs.Common.{◌≡◌, ◌≢◌, List, [], ◌∷◌, refl, sym, ap, subst, ◌∙◌, inl, inr}
use Rattle.std.specs.Prelude.{◌⊎◌, ◌↔◌, Contains}
use Rattle.std.proofs.lemmas.Bool.{cases_eq}
use Rattle.gf_ops.specs.declared.op.Op.{Op}
use Rattle.gf_ops.specs.declared.op.OpId.{OpId}
use Rattle.gf_ops.specs.declared.op.ObjectId.{ObjectId}
use Rattle.gf_ops.specs.Aims.{AimsAt, Brings, HasNoAims}
use Rattle.gf_ops.specs.Attribute.{aim_of, object_of}
use Rattle.gf_ops.specs.Conflict.{Conflict, ConflictsWithBrought, ConflictsByAim}
use Rattle.gf_ops.specs.DirectConflict.{DirectConflict}
use Rattle.gf_ops.specs.OperationOrder.{Precedes}
use Rattle.gf_ops.specs.ValidHistory.{IsValid}
use Rattle.gf_ops.specs.Version.{IsVersion, IsMember, IsLargestGroup}
use Rattle.gf_ops.proofs.DirectConflictLemmas.{direct-sym}
use Rattle.gf_base.proofs.ListLemmas.{Contains-cons_cases, Contains-cons_head, Contains-cons_tail}
use Rattle.gf_base.proofs.ListLemmas.{not_Contains-nil}
use Rattle.gf_ops.proofs.ValidityLemmas.{same_op}

pub conflict-sym : (h : List Op) (a b : Op) → Conflict h a b → Conflict h b a
conflict-sym h a b c = record {
  first = c.second;
  second = c.first;
  brings_first = c.brings_second;
  brings_second = c.brings_first;
  direct = direct-sym c.first c.second c.direct;
}

-- each operation brings itself
pub conflict_direct : (h : List Op) (a b : Op) → DirectConflict a b → Conflict h a b
conflict_direct h a b d = record {
  first = a;
  second = b;
  brings_first = inl refl;
  brings_second = inl refl;
  direct = d;
}

pub conflict_brought : (h : List Op) (a b : Op) → ConflictsWithBrought h a b → Conflict h a b
conflict_brought h a b m = record {
  first = a;
  second = m.second;
  brings_first = inl refl;
  brings_second = m.brings;
  direct = m.direct;
}

pub conflict_parted : (h : List Op) (a b : Op) → Conflict h a b
    → ConflictsWithBrought h a b ⊎ ConflictsByAim h a b
conflict_parted h a b c = elim c.brings_first [
  | inl e ↦ inl (record {
    second = c.second;
    brings = c.brings_second;
    direct = subst (λ x. DirectConflict x c.second) e c.direct;
  })
  | inr m ↦ inr (record {
    aimed = c.first;
    aims = m;
    conflict = record {
      first = c.first;
      second = c.second;
      brings_first = inl refl;
      brings_second = c.brings_second;
      direct = c.direct;
    };
  })
]

-- ---- in a valid history

module _ (h : List Op) (valid : IsValid h) where
  -- what is aimed at comes before
  aimed_before : (a x : Op) → Contains h a → AimsAt h a x → Precedes x a
  aimed_before a x i m =
      let t = (valid.aimed a i).each x.id m.aimed in
      subst (λ y. Precedes y a) (same_op h valid t.on.op x t.on.contained m.contained t.on.id) t.before

  -- and brings no more
  pub brings_more : (a x y : Op) → Contains h a → AimsAt h a x → Brings h x y → AimsAt h a y
  brings_more a x y i m b = elim b [
    | inl e ↦ subst (AimsAt h a) (sym e) m
    | inr n ↦
        let t = (valid.aimed a i).each x.id m.aimed in
        let same = same_op h valid t.on.op x t.on.contained m.contained t.on.id in
        record {
          contained = n.contained;
          aimed = subst (λ (z : Op). (j : OpId) → Contains (aim_of z) j → Contains (aim_of a) j)
              same t.within y.id n.aimed;
        }
  ]

  -- no two that an operation brings conflict directly
  pub brought_calm : (a x y : Op) → Contains h a → Brings h a x → Brings h a y
      → ¬ (DirectConflict x y)
  brought_calm a x y i b c d = elim b [
    | inl e ↦ elim c [
      | inl f ↦ d.concurrent.different (e ∙ sym f)
      | inr n ↦ d.concurrent.not_after (subst (Precedes y) (sym e) (aimed_before a y i n))
    ]
    | inr m ↦ elim c [
      | inl f ↦ d.concurrent.not_before (subst (Precedes x) (sym f) (aimed_before a x i m))
      | inr n ↦ (valid.aimed a i).compatible x y m n d
    ]
  ]

  pub conflict_irreflexive : (a : Op) → Contains h a → ¬ (Conflict h a a)
  conflict_irreflexive a i c = brought_calm a c.first c.second i c.brings_first c.brings_second
      c.direct

  pub own_aim_calm : (a x : Op) → Contains h a → AimsAt h a x → ¬ (Conflict h a x)
  own_aim_calm a x i m c = brought_calm a c.first c.second i c.brings_first
      (inr (brings_more a x c.second i m c.brings_second)) c.direct

  pub conflict_carried : (a x b : Op) → Contains h a → AimsAt h a x → Conflict h x b
      → Conflict h a b
  conflict_carried a x b i m c = record {
    first = c.first;
    second = c.second;
    brings_first = inr (brings_more a x c.first i m c.brings_first);
    brings_second = c.brings_second;
    direct = c.direct;
  }

  -- ---- versions

  id_cases : (i j : OpId) → (i ≡ j) ⊎ (i ≢ j)
  id_cases i j = elim (cases_eq i.site j.site) [
    | inl s ↦ elim (cases_eq i.seq j.seq) [
      | inl n ↦ inl (λ k. record { site = s k; seq = n k })
      | inr n ↦ inr (λ e. n (ap (λ (k : OpId). k.seq) e))
    ]
    | inr s ↦ inr (λ e. s (ap (λ (k : OpId). k.site) e))
  ]

  held_cases : (g : List OpId) (i : OpId) → Contains g i ⊎ (¬ (Contains g i))
  held_cases [] i = inr (λ c. not_Contains-nil i c)
  held_cases (j ∷ js) i = elim (id_cases i j) [
    | inl e ↦ inl (subst (Contains (j ∷ js)) (sym e) (Contains-cons_head j js))
    | inr n ↦ elim (held_cases js i) [
      | inl c ↦ inl (Contains-cons_tail j js i c)
      | inr m ↦ inr (λ c. elim (Contains-cons_cases j js i c) [ inl e ↦ n e | inr d ↦ m d ])
    ]
  ]

  -- a version holds the aims of its members
  pub version_holds_aims : (o : ObjectId) (g : List OpId) → IsVersion h o g → (a : Op)
      → IsMember h g a → (i : OpId) → Contains (aim_of a) i → Contains g i
  version_holds_aims o g v a m i c =
      let t = ((valid.aimed a m.contained).each i c).on in
      let aims : AimsAt h a t.op = record {
        contained = t.contained;
        aimed = subst (Contains (aim_of a)) (sym t.id) c;
      } in
      let on = v.members a.id m.grouped in
      let own : object_of a ≡ o = ap object_of (same_op h valid a on.op m.contained on.contained
      (sym on.id)) ∙ on.such in
      elim (held_cases g t.op.id) [
        | inl held ↦ subst (Contains g) t.id held
        | inr lost ↦
            let w = v.largest t.op t.contained (t.such ∙ own) lost in
            absurd (v.compatible a w.member m w.is_member
            (conflict_carried a t.op w.member m.contained aims w.conflict))
      ]

-- ---- without aims

module _ (h : List Op) (none : HasNoAims h) where
  alone : (a x : Op) → Contains h a → Brings h a x → x ≡ a
  alone a x i b = elim b [
    | inl e ↦ e
    | inr m ↦ absurd (not_Contains-nil x.id (subst (λ xs. Contains xs x.id) (none a i) m.aimed))
  ]

  pub conflict_is_direct : (a b : Op) → Contains h a → Contains h b → Conflict h a b
      → DirectConflict a b
  conflict_is_direct a b i j c = subst (λ x. DirectConflict x b) (alone a c.first i c.brings_first)
      (subst (λ y. DirectConflict c.first y) (alone b c.second j c.brings_second) c.direct)

  pub version_is_direct : (o : ObjectId) (g : List OpId)
      → IsVersion h o g ↔ IsLargestGroup DirectConflict h o g
  version_is_direct o g = (
    λ v. record {
      rising = v.rising;
      created = v.created;
      makes = v.makes;
      members = v.members;
      compatible = λ a b m n d. v.compatible a b m n (conflict_direct h a b d);
      largest = λ a i e l. let w = v.largest a i e l in record {
        member = w.member;
        is_member = w.is_member;
        conflict = conflict_is_direct a w.member i w.is_member.contained w.conflict;
      };
    },
    λ v. record {
      rising = v.rising;
      created = v.created;
      makes = v.makes;
      members = v.members;
      compatible = λ a b m n c. v.compatible a b m n (conflict_is_direct a b m.contained n.contained
          c);
      largest = λ a i e l. let w = v.largest a i e l in record {
        member = w.member;
        is_member = w.is_member;
        conflict = conflict_direct h a w.member w.conflict;
      };
    },
  )

-- ---- what is known
