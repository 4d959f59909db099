-- Each operation of a valid history stands in a version of its object.
use Rattle.std.proofs.Common.{◌≡◌, ℕ, false, List, [], ◌∷◌, inl, inr, refl, subst, sym}
use Rattle.std.specs.Prelude.{Contains, Some, slice_get}
use Rattle.std.proofs.lemmas.Bool.{cases_Bool}
use Rattle.gf_base.proofs.ListLemmas.{Contains-cons_cases, Contains-cons_head, not_Contains-nil}
use Rattle.gf_maximal.proofs.FirstLemmas.{first_largest, first_over}
use Rattle.gf_maximal.proofs.MaximalLemmas.{Within}
use Rattle.gf_ops.specs.declared.op.Op.{Op}
use Rattle.gf_ops.specs.declared.op.OpId.{OpId}
use Rattle.gf_ops.specs.declared.change.Change.{Change}
use Rattle.gf_ops.specs.declared.change.Change.TheVariants.{Create, Set}
use Rattle.gf_ops.specs.Attribute.{changed_object, kind_of, object_of}
use Rattle.gf_ops.specs.Conflict.{Conflict}
use Rattle.gf_ops.specs.KnownObject.{IsSuited}
use Rattle.gf_ops.specs.ValidHistory.{IsValid}
use Rattle.gf_ops.specs.Version.{IsVersion}
use Rattle.gf_groups.specs.Versions.{IsMade}
use Rattle.gf_groups.specs.VersionList.{is_in}
use Rattle.gf_groups.specs.Growing.{conflict_at}
use Rattle.gf_groups.specs.GroupedPositions.{rising_ids}
use Rattle.gf_table.specs.Positions.{positions_on}
use Rattle.gf_groups.proofs.IdPositionLemmas.{Contains-rising_ids}
use Rattle.gf_groups.proofs.LargestGroupLemmas.{conflict_at_test}
use Rattle.gf_groups.proofs.OnPositionLemmas.{all_positions, on_to, position_of_op}
use Rattle.gf_groups.proofs.PositionLemmas.{positions_on-rising}
use Rattle.gf_groups.proofs.VersionLemmas.{in_from, in_to, version_of_largest}

-- the object of an operation that founds it, or knows it, is made
founded : (h : List Op) (a : Op) (c : Change) → a.change ≡ c → Contains h a → IsSuited h a c
    → IsMade h (changed_object a.id c)
founded h a (Create start) e i s = record {
  kind = kind_of start.form;
  made = record { op = a; contained = i; id = refl; such = rw e refl };
}
founded h a (Set o v aim) e i s = record { kind = s.kind; made = s.known.made }

module _ (h : List Op) (valid : IsValid h) (a : Op) (there : Contains h a) where
  made : IsMade h (object_of a)
  made = founded h a a.change refl there (valid.suited a there)

  -- one position alone has no conflict
  alone : (k i j : ℕ) → Contains (k ∷ []) i → Contains (k ∷ []) j → conflict_at h i j ≡ false
  alone k i j c d = elim (Contains-cons_cases k [] i c) [
    | inl e ↦ elim (Contains-cons_cases k [] j d) [
      | inl f ↦ let t = (conflict_at_test h).alone k in rw (e, f) t
      | inr n ↦ absurd (not_Contains-nil j n)
    ]
    | inr n ↦ absurd (not_Contains-nil i n)
  ]

  -- its position is one of the positions on its object
  here : (k : ℕ) → slice_get h k ≡ Some a → Within (k ∷ []) (positions_on h (object_of a))
  here k at i c = elim (Contains-cons_cases k [] i c) [
    | inl e ↦ subst (Contains (positions_on h (object_of a))) (sym e)
        ((all_positions h (object_of a) k).1 (rw at (on_to (object_of a) a refl)))
    | inr n ↦ absurd (not_Contains-nil i n)
  ]

  -- the first completion of its position alone is a version
  pub stands_in_one : (g : List OpId) × IsVersion h (object_of a) g × Contains g a.id
  stands_in_one =
      let o = object_of a in
      let us = positions_on h o in
      let k = position_of_op h a there in
      let r = first_over (conflict_at h) (conflict_at_test h) us (k.0 ∷ [])
      (positions_on-rising h o) (here k.0 k.1) (alone k.0) in (
        rising_ids h r.0,
        version_of_largest h valid o us (all_positions h o) made r.0
            (first_largest (conflict_at h) (conflict_at_test h) us (k.0 ∷ []) r.0 r.2),
        (Contains-rising_ids h r.0 a.id).1 (record {
          position = k.0;
          op = a;
          contained = r.2.kept k.0 (Contains-cons_head k.0 []);
          at = k.1;
          id = refl;
        }),
      )

  pub stands_in_all : ((b : Op) → Contains h b → ¬ (Conflict h a b)) → (g : List OpId)
      → IsVersion h (object_of a) g → Contains g a.id
  stands_in_all none g v = elim (cases_Bool (is_in g a)) [
    | inl t ↦ in_from g a t
    | inr n ↦
        let w = v.largest a there refl (λ c. let t = in_to g a c in absurd cc) in
        absurd (none w.member w.is_member.contained w.conflict)
  ]
