-- Largest groups of the positions of an object's operations are its versions.
use Rattle.std.proofs.Common.{◌≡◌, ℕ, Bool, true, false, List, refl, sym, subst, ◌∙◌, inl, inr}
use Rattle.std.specs.Prelude.{◌↔◌, Contains, Option, Some, None, IsSome, filter, slice_get}
use Rattle.std.specs.Ordering.{nat_cmp}
use Rattle.std.proofs.lemmas.Bool.{cases_Bool}
use Rattle.std.proofs.lemmas.List.Kept.{IsStrictlySortedBy-filter}
use Rattle.gf_ops.specs.declared.op.Op.{Op}
use Rattle.gf_ops.specs.declared.op.OpId.{OpId}
use Rattle.gf_ops.specs.declared.op.ObjectId.{ObjectId}
use Rattle.gf_ops.specs.Attribute.{object_of}
use Rattle.gf_ops.specs.ValidHistory.{IsValid}
use Rattle.gf_ops.specs.Version.{IsVersion, IsMember}
use Rattle.gf_ops.proofs.ValidityLemmas.{same_op}
use Rattle.gf_groups.specs.Versions.{IsMade}
use Rattle.gf_groups.specs.VersionList.{id_eq, is_in}
use Rattle.gf_groups.specs.Growing.{conflict_at}
use Rattle.gf_groups.specs.GroupedPositions.{rising_ids}
use Rattle.gf_table.specs.Positions.{is_on}
use Rattle.gf_maximal.specs.LargestSets.{IsLargest, IsRising}
use Rattle.gf_groups.proofs.ConflictTestLemmas.{id_decided}
use Rattle.gf_ops.proofs.IdLemmas.{id_cmp_total}
use Rattle.gf_groups.proofs.IdPositionLemmas.{IsIdAt, Contains-rising_ids, rising_ids-rising}
use Rattle.gf_base.proofs.FilterLemmas.{Contains-filter, list_any_true, list_any_from}
use Rattle.gf_groups.proofs.OnPositionLemmas.{made_object, on_from, on_to, on_op, conflict_from}
use Rattle.gf_base.proofs.PositionLemmas.{contained_at}
use Rattle.gf_groups.proofs.OnPositionLemmas.{conflict_with, position_of_op}
use Rattle.gf_base.proofs.RisingLemmas.{one_rising}
use Rattle.gf_ops.specs.OperationOrder.{id_cmp}

-- the operation is there, and its id is in q
abbrev has_op : List OpId → Option Op → Bool
has_op q (Some a) = is_in q a
has_op q None = false

pub in_from : (q : List OpId) (a : Op) → is_in q a ≡ true → Contains q a.id
in_from q a t = let w = list_any_true (id_eq a.id) q t in
    subst (Contains q) (sym ((id_decided a.id w.0).0 w.2)) w.1

pub in_to : (q : List OpId) (a : Op) → Contains q a.id → is_in q a ≡ true
in_to q a c = list_any_from (id_eq a.id) q a.id c ((id_decided a.id a.id).1 refl)

had_op : (q : List OpId) (r : Option Op) → has_op q r ≡ true
    → (a : Op) × (r ≡ Some a) × Contains q a.id
had_op q (Some a) t = (a, refl, in_from q a t)
had_op q None t = absurd cc

-- us are the positions of all operations of h on the object o
module _ (h : List Op) (valid : IsValid h) (o : ObjectId) (us : List ℕ) (all : (i : ℕ)
    → Contains us i ↔ (is_on o (slice_get h i) ≡ true)) where
  at_us : (i : ℕ) (a : Op) → slice_get h i ≡ Some a → object_of a ≡ o → Contains us i
  at_us i a e on = let t : is_on o (slice_get h i) ≡ true = rw e (on_to o a on) in (all i).1 t

  on_us : (i : ℕ) (a : Op) → slice_get h i ≡ Some a → Contains us i → object_of a ≡ o
  on_us i a e c = let t = (all i).0 c in on_from o a (rw e at t)

  -- the operation under an id that the positions have
  op_at_id : (g : List ℕ) (a : Op) → Contains h a → IsIdAt h g a.id
      → (i : ℕ) × Contains g i × (slice_get h i ≡ Some a)
  op_at_id g a c t = (
    t.position,
    t.contained,
    subst (λ (b : Op). slice_get h t.position ≡ Some b)
        (same_op h valid t.op a (contained_at h t.position t.op t.at) c t.id) t.at,
  )

  has_id : (g : List ℕ) (i : ℕ) (a : Op) → Contains g i → slice_get h i ≡ Some a
      → Contains (rising_ids h g) a.id
  has_id g i a c e = (Contains-rising_ids h g a.id).1
      (record { position = i; op = a; contained = c; at = e; id = refl })

  pub version_of_largest : IsMade h o → (g : List ℕ)
      → IsLargest (conflict_at h) (Contains us) (Contains g) → IsVersion h o (rising_ids h g)
  version_of_largest made g m =
      let maker = made.made in
      let object : object_of maker.op ≡ o = let e = made_object maker.op.id maker.op.change
      made.kind maker.such ∙ maker.id in λ i. record { 0 = e i } in
      record {
        rising = rising_ids-rising h g;
        created = record {
          op = maker.op;
          contained = maker.contained;
          id = maker.id;
          such = object;
        };
        makes = subst (λ k. IsSome k) (sym maker.such) refl;
        members = λ i c.
            let t = (Contains-rising_ids h g i).0 c in
            record {
              op = t.op;
              contained = contained_at h t.position t.op t.at;
              id = t.id;
              such = on_us t.position t.op t.at (m.within t.position t.contained);
            };
        compatible = λ a b x y k.
            let s = op_at_id g a x.contained ((Contains-rising_ids h g a.id).0 x.grouped) in
            let t = op_at_id g b y.contained ((Contains-rising_ids h g b.id).0 y.grouped) in
            let yes = conflict_from h valid s.0 t.0 a b s.2 t.2 k in
            let no = m.compatible s.0 t.0 s.1 t.1 in absurd cc;
        largest = λ a c on n.
            let p = position_of_op h a c in
            elim (m.largest p.0 (at_us p.0 a p.1 on)) [
              | inl i ↦ absurd (n (has_id g p.0 a i p.1))
              | inr w ↦
                  let q = conflict_with h p.0 w.0 a p.1 w.2 in
                  record {
                    member = q.0;
                    is_member = record {
                      contained = contained_at h w.0 q.0 q.1;
                      grouped = has_id g w.0 q.0 w.1 q.1;
                    };
                    conflict = q.2;
                  }
            ];
      }

  -- the positions of the operations that a group of ids has
  abbrev pub positions_in : List OpId → List ℕ
  positions_in q = filter (λ k. has_op q (slice_get h k)) us

  kept : (q : List OpId) (k : ℕ) → Contains (positions_in q) k → (a : Op) × (slice_get h k ≡ Some a)
      × Contains q a.id
  kept q k c = had_op q (slice_get h k) ((Contains-filter (λ i. has_op q (slice_get h i)) us k).0
      c).1

  keep : (q : List OpId) (k : ℕ) (a : Op) → slice_get h k ≡ Some a → object_of a ≡ o
      → Contains q a.id → Contains (positions_in q) k
  keep q k a e on c =
      let t : has_op q (slice_get h k) ≡ true = rw e (in_to q a c) in
      (Contains-filter (λ i. has_op q (slice_get h i)) us k).1 (at_us k a e on, t)

  -- a member of a version is on the object
  member_on : (q : List OpId) → IsVersion h o q → (a : Op) → Contains h a → Contains q a.id
      → object_of a ≡ o
  member_on q v a c k = let t = v.members a.id k in
      subst (λ (b : Op). object_of b ≡ o) (same_op h valid t.op a t.contained c t.id) t.such

  pub largest_of_version : (q : List OpId) → IsVersion h o q
      → IsLargest (conflict_at h) (Contains us) (Contains (positions_in q))
  largest_of_version q v = record {
    within = λ i c. ((Contains-filter (λ k. has_op q (slice_get h k)) us i).0 c).0;
    compatible = λ i j x y. elim (cases_Bool (conflict_at h i j)) [
      | inl t ↦
          let a = kept q i x in let b = kept q j y in
          let k = conflict_with h i j a.0 a.1 t in
          let e : b.0 ≡ k.0 = let u = b.1 in let w = k.1 in cc in
          let m : IsMember h q k.0 = record {
            contained = contained_at h j k.0 k.1;
            grouped = subst (λ (z : Op). Contains q z.id) e b.2;
          } in
          absurd (v.compatible a.0 k.0
          (record { contained = contained_at h i a.0 a.1; grouped = a.2 }) m k.2)
      | inr t ↦ t
    ];
    largest = λ i x.
        let a = on_op o (slice_get h i) ((all i).0 x) in
        elim (cases_Bool (is_in q a.0)) [
          | inl t ↦ inl (keep q i a.0 a.1 a.2 (in_from q a.0 t))
          | inr n ↦
              let w = v.largest a.0 (contained_at h i a.0 a.1) a.2 (λ c. let t = in_to q a.0 c in
              absurd cc) in
              let m = w.is_member in
              let p = position_of_op h w.member m.contained in
              inr (
                p.0,
                keep q p.0 w.member p.1 (member_on q v w.member m.contained m.grouped) m.grouped,
                conflict_from h valid i p.0 a.0 w.member a.1 p.1 w.conflict,
              )
        ];
  }

  pub same_ids : (q : List OpId) → IsVersion h o q → rising_ids h (positions_in q) ≡ q
  same_ids q v = one_rising id_cmp id_cmp_total (rising_ids h (positions_in q)) q
      (rising_ids-rising h (positions_in q)) v.rising (λ j. (
        λ c.
            let t = (Contains-rising_ids h (positions_in q) j).0 c in
            let k = kept q t.position t.contained in
            let e : k.0 ≡ t.op = let u = k.1 in let w = t.at in cc in
            subst (Contains q) t.id (subst (λ (z : Op). Contains q z.id) e k.2),
        λ c.
            let t = v.members j c in
            let p = position_of_op h t.op t.contained in
            (Contains-rising_ids h (positions_in q) j).1
            (record {
              position = p.0;
              op = t.op;
              contained = keep q p.0 t.op p.1 t.such (subst (Contains q) (sym t.id) c);
              at = p.1;
              id = t.id;
            }),
      ))

  pub positions_in-rising : IsRising us → (q : List OpId) → IsRising (positions_in q)
  positions_in-rising form q = IsStrictlySortedBy-filter nat_cmp (λ k. has_op q (slice_get h k)) us
      form
