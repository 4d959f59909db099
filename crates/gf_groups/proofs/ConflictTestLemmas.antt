-- The tests of a direct conflict and of a conflict decide these.
use Rattle.std.proofs.Common.{◌≡◌, List, refl, sym, ap, subst, inl, inr}
use Rattle.std.specs.Prelude.{◌↔◌, ◌&&◌, ◌==◌, not, Contains, filter}
use Rattle.std.specs.List.{list_any}
use Rattle.std.specs.Bool.{Decides}
use Rattle.std.proofs.lemmas.Bool.{leb-true, le-leb}
use Rattle.std.proofs.lemmas.Bool.Decides.{Decides-and, Decides-not, Decides-like, Decides-eqb}
use Rattle.std.proofs.lemmas.Bool.Decides.{same_from_decides}
use Rattle.gf_ops.specs.declared.op.Op.{Op}
use Rattle.gf_ops.specs.declared.op.OpId.{OpId}
use Rattle.gf_ops.specs.declared.op.ObjectId.{ObjectId}
use Rattle.gf_ops.specs.Attribute.{aim_of, object_of}
use Rattle.gf_ops.specs.DirectConflict.{DirectConflict}
use Rattle.gf_ops.specs.ConflictTests.{are_apart}
use Rattle.gf_ops.specs.OperationOrder.{Precedes, entry}
use Rattle.gf_ops.proofs.DirectConflictLemmas.{direct_told, direct_from}
use Rattle.gf_ops.specs.Aims.{Brings}
use Rattle.gf_ops.specs.Conflict.{Conflict}
use Rattle.gf_ops.proofs.ConflictLemmas.{conflict-sym}
use Rattle.gf_base.proofs.ListLemmas.{Contains-cons_cases, Contains-cons_head, Contains-cons_tail}
use Rattle.gf_groups.specs.VersionList.{id_eq, is_before, are_unordered, in_direct_conflict}
use Rattle.gf_groups.specs.VersionList.{aims_at, brought, in_conflict}
use Rattle.gf_base.proofs.FilterLemmas.{Contains-filter, list_any_true, list_any_from}

pub id_decided : (i j : OpId) → Decides (id_eq i j) (i ≡ j)
id_decided i j = Decides-like (id_eq i j) (λ h k. record { site = h.0 k; seq = h.1 k })
    (λ e. (ap (λ (k : OpId). k.site) e, ap (λ (k : OpId). k.seq) e))
    (Decides-and (i.site == j.site) (i.seq == j.seq) (Decides-eqb i.site j.site)
    (Decides-eqb i.seq j.seq))

pub before_decided : (a b : Op) → Decides (is_before a b) (Precedes a b)
before_decided a b = (
  leb-true a.id.seq (entry b.past a.id.site),
  le-leb a.id.seq (entry b.past a.id.site),
)

unordered_decided : (a b : Op)
    → Decides (are_unordered a b) ((¬ (Precedes a b)) × (¬ (Precedes b a)))
unordered_decided a b =
    Decides-and (not (is_before a b)) (not (is_before b a))
    (Decides-not (is_before a b) (before_decided a b))
    (Decides-not (is_before b a) (before_decided b a))

pub direct_decided : (a b : Op) → Decides (in_direct_conflict a b) (DirectConflict a b)
direct_decided a b = Decides-like (in_direct_conflict a b)
    (λ t. direct_told a b t.0.0 (λ k. record { 0 = t.0.1 k }) t.1)
    (λ c. (
      ((c.concurrent.not_before, c.concurrent.not_after), ap (λ (o : ObjectId). o.0) c.one_object),
      direct_from a b c,
    ))
    (Decides-and (are_unordered a b && id_eq (object_of a).0 (object_of b).0)
    (are_apart a.change b.change)
    (Decides-and (are_unordered a b) (id_eq (object_of a).0 (object_of b).0) (unordered_decided a b)
    (id_decided (object_of a).0 (object_of b).0))
    (λ t. t, λ t. t))

-- ---- aims

aims_decided : (a x : Op) → Decides (aims_at a x) (Contains (aim_of a) x.id)
aims_decided a x = (
  λ t. let w = list_any_true (id_eq x.id) (aim_of a) t in
      subst (Contains (aim_of a)) (sym ((id_decided x.id w.0).0 w.2)) w.1,
  λ c. list_any_from (id_eq x.id) (aim_of a) x.id c ((id_decided x.id x.id).1 refl),
)

module _ (h : List Op) where
  pub brought_told : (a x : Op) → Contains (brought h a) x ↔ Brings h a x
  brought_told a x = (
    λ c. elim (Contains-cons_cases a (filter (aims_at a) h) x c) [
      | inl e ↦ inl e
      | inr k ↦ let w = (Contains-filter (aims_at a) h x).0 k in
          inr (record { contained = w.0; aimed = (aims_decided a x).0 w.1 })
    ],
    λ b. elim b [
      | inl e ↦ subst (Contains (brought h a)) (sym e) (Contains-cons_head a (filter (aims_at a) h))
      | inr m ↦ Contains-cons_tail a (filter (aims_at a) h) x
          ((Contains-filter (aims_at a) h x).1 (m.contained, (aims_decided a x).1 m.aimed))
    ],
  )

  pub conflict_decided : (a b : Op) → Decides (in_conflict h a b) (Conflict h a b)
  conflict_decided a b = (
    λ t.
        let w = list_any_true (λ x. list_any (in_direct_conflict x) (brought h b)) (brought h a) t
        in
        let v = list_any_true (in_direct_conflict w.0) (brought h b) w.2 in
        record {
          first = w.0;
          second = v.0;
          brings_first = (brought_told a w.0).0 w.1;
          brings_second = (brought_told b v.0).0 v.1;
          direct = (direct_decided w.0 v.0).0 v.2;
        },
    λ c. list_any_from (λ x. list_any (in_direct_conflict x) (brought h b)) (brought h a) c.first
        ((brought_told a c.first).1 c.brings_first)
        (list_any_from (in_direct_conflict c.first) (brought h b) c.second
        ((brought_told b c.second).1 c.brings_second)
        ((direct_decided c.first c.second).1 c.direct)),
  )

  pub in_conflict-sym : (a b : Op) → in_conflict h a b ≡ in_conflict h b a
  in_conflict-sym a b = same_from_decides (in_conflict h a b) (in_conflict h b a)
      (conflict_decided a b) (Decides-like (in_conflict h b a) (conflict-sym h b a)
      (conflict-sym h a b) (conflict_decided b a))
