-- Aims in a part of a history, and the ids of a version as an aim.
use Rattle.std.proofs.Common.{◌≡◌, List, sym, subst, ◌∙◌}
use Rattle.std.specs.Prelude.{Contains}
use Rattle.gf_ops.specs.declared.op.Op.{Op}
use Rattle.gf_ops.specs.declared.op.OpId.{OpId}
use Rattle.gf_ops.specs.declared.op.ObjectId.{ObjectId}
use Rattle.gf_ops.specs.Aims.{AimsAt, IsAimed}
use Rattle.gf_ops.specs.Attribute.{aim_of, object_of}
use Rattle.gf_ops.specs.OperationOrder.{Precedes}
use Rattle.gf_ops.specs.ValidHistory.{Counts, IsValid}
use Rattle.gf_ops.specs.Version.{IsVersion, IsMember}
use Rattle.gf_ops.proofs.ConflictLemmas.{conflict_direct, version_holds_aims}
use Rattle.gf_ops.proofs.HistoryLemmas.{site_in_range, seq_in_range}
use Rattle.gf_ops.proofs.ValidityLemmas.{Holds, has_beyond, same_op}

-- in a part of a history that has all that a knows, the aim of a is one
pub aimed_within : (h part : List Op) → IsValid h → ((x : Op) → Contains part x → Contains h x)
    → (a : Op) → ((i : OpId) → Counts a.past i → Holds part i) → IsAimed h a → IsAimed part a
aimed_within h part valid inside a known t = record {
  each = λ i c.
      let m = t.each i c in
      let on = m.on in
      let range = valid.in_range on.op on.contained in
      let w = known on.op.id (record {
        site = site_in_range on.op range;
        first = (seq_in_range on.op range).0;
        last = m.before;
      }) in
      let same : w.op ≡ on.op = same_op h valid w.op on.op (inside w.op w.contained) on.contained
      w.id in
      record {
        on = record {
          op = on.op;
          contained = subst (Contains part) same w.contained;
          id = on.id;
          such = on.such;
        };
        before = m.before;
        within = m.within;
      };
  compatible = λ x y m n. t.compatible x y (lifted x m) (lifted y n);
}
  where
    lifted : (x : Op) → AimsAt part a x → AimsAt h a x
    lifted x m = record { contained = inside x m.contained; aimed = m.aimed }

-- the ids of a version are an aim of an operation on its object that knows all operations on it
pub version_aimed : (h : List Op) → IsValid h → (o : ObjectId) (g : List OpId) → IsVersion h o g
    → (a : Op) → aim_of a ≡ g → object_of a ≡ o → ((x : Op) → Contains h x → Precedes x a)
    → IsAimed h a
version_aimed h valid o g v a aim object knows = record {
  each = λ i c.
      let held = subst (λ is. Contains is i) aim c in
      let on = v.members i held in
      let member : IsMember h g on.op = record {
        contained = on.contained;
        grouped = subst (Contains g) (sym on.id) held;
      } in
      record {
        on = record {
          op = on.op;
          contained = on.contained;
          id = on.id;
          such = on.such ∙ sym object;
        };
        before = knows on.op on.contained;
        within = λ j k. subst (λ is. Contains is j) (sym aim)
            (version_holds_aims h valid o g v on.op member j k);
      };
  compatible = λ x y m n d. v.compatible x y (grouped x m) (grouped y n) (conflict_direct h x y d);
}
  where
    grouped : (x : Op) → AimsAt h a x → IsMember h g x
    grouped x m = record {
      contained = m.contained;
      grouped = subst (λ is. Contains is x.id) aim m.aimed;
    }

-- an aim in a part of operations, of which each has its own id, is one among all of them
pub aimed_beyond : (h part : List Op) → ((x y : Op) → Contains h x → Contains h y → x.id ≡ y.id
    → x ≡ y) → ((x : Op) → Contains part x → Contains h x) → (a : Op) → IsAimed part a → IsAimed h a
aimed_beyond h part one inside a t = record {
  each = λ i c. let m = t.each i c in record {
    on = has_beyond part h inside m.on;
    before = m.before;
    within = m.within;
  };
  compatible = λ x y m n. t.compatible x y (lowered x m) (lowered y n);
}
  where
    lowered : (x : Op) → AimsAt h a x → AimsAt part a x
    lowered x m =
        let k = (t.each x.id m.aimed).on in
        let same : k.op ≡ x = one k.op x (inside k.op k.contained) m.contained k.id in
        record { contained = subst (Contains part) same k.contained; aimed = m.aimed }
