-- The list that computes has exactly the versions of an object, in rising order. The crates above
-- cite it.
use Rattle.std.proofs.Common.{◌≡◌, true, List, [], ◌∷◌, ◌++◌, map, inl, inr, refl, subst, sym, ap}
use Rattle.std.proofs.Common.{◌∙◌, arith, Option, Some, None}
use Rattle.std.specs.Prelude.{◌↔◌, ◌&&◌, ◌||◌, not, Contains, length, IsSome}
use Rattle.std.specs.Cmp.Lexicographic.{slice_cmp}
use Rattle.std.specs.List.{list_any, list_all}
use Rattle.std.specs.List.Sorted.{IsStrictlySortedBy}
use Rattle.std.specs.declared.cmp.Ordering.TheVariants.{Less}
use Rattle.std.proofs.lemmas.Bool.{cases_Bool, and_parts, and_from, or_cases, or_left, or_right}
use Rattle.std.proofs.lemmas.Bool.{not_from_false, not-true}
use Rattle.std.proofs.lemmas.Cmp.{lists_total}
use Rattle.std.proofs.lemmas.List.Elements.{Contains-append_left, Contains-append_right}
use Rattle.std.proofs.lemmas.List.Elements.{Contains-append_cases}
use Rattle.gf_ops.specs.declared.op.Op.{Op}
use Rattle.gf_ops.specs.declared.op.OpId.{OpId}
use Rattle.gf_ops.specs.declared.op.ObjectId.{ObjectId}
use Rattle.gf_ops.specs.Attribute.{Kind, made_kind, object_of}
use Rattle.gf_ops.specs.Conflict.{Conflict}
use Rattle.gf_ops.specs.OperationOrder.{id_cmp}
use Rattle.gf_ops.specs.Version.{IsMember, ConflictsWithin, IsVersion}
use Rattle.gf_ops.specs.HasOperation.{HasOn}
use Rattle.gf_base.proofs.ListLemmas.{Contains-cons_cases, Contains-cons_head, Contains-cons_tail}
use Rattle.gf_base.proofs.ListLemmas.{Contains-map, Contains-map_from, not_Contains-nil}
use Rattle.gf_groups.specs.declared.group.Group.{Group}
use Rattle.gf_groups.specs.Versions.{IsMade, IsVersionGroup, AreVersions, group_cmp}
use Rattle.gf_groups.specs.VersionList.{id_eq, in_conflict, is_in, ops_on, members, is_compatible}
use Rattle.gf_groups.specs.VersionList.{is_largest, sublists, ids_on, versions_of}
use Rattle.gf_groups.proofs.ConflictTestLemmas.{id_decided, conflict_decided}
use Rattle.gf_ops.proofs.IdLemmas.{id_cmp_total, id_cmp_exact}
use Rattle.gf_base.proofs.FilterLemmas.{Contains-filter, list_any_true, list_any_from}
use Rattle.gf_base.proofs.FilterLemmas.{list_all_true, list_all_from}
use Rattle.gf_groups.proofs.GroupLemmas.{group_cmp_total}
use Rattle.gf_groups.proofs.OnPositionLemmas.{made_object}
use Rattle.gf_base.proofs.RisingLemmas.{one_rising}
use Rattle.gf_base.proofs.InsertLemmas.{inserted_all, holds_all}
use Rattle.gf_base.proofs.PairLemmas.{Pairs-filter, Pairs-from, Pairs-map}
use Rattle.gf_groups.proofs.SublistLemmas.{Pairs_from_rising, StandsBefore, rising_from_Pairs}
use Rattle.gf_groups.proofs.SublistLemmas.{rising_sublist, sublist_rising, sublist_within}
use Rattle.gf_groups.proofs.SublistLemmas.{sublists_in_order}

module _ (h : List Op) (o : ObjectId) where
  in_group : (g : List OpId) (a : Op) → (is_in g a ≡ true) ↔ Contains g a.id
  in_group g a = (
    λ t. let w = list_any_true (id_eq a.id) g t in
        subst (Contains g) (sym ((id_decided a.id w.0).0 w.2)) w.1,
    λ i. list_any_from (id_eq a.id) g a.id i ((id_decided a.id a.id).1 refl),
  )

  member : (g : List OpId) (a : Op) → Contains (members h g) a ↔ IsMember h g a
  member g a = (
    λ i. let p = (Contains-filter (is_in g) h a).0 i in record {
      contained = p.0;
      grouped = (in_group g a).0 p.1;
    },
    λ m. (Contains-filter (is_in g) h a).1 (m.contained, (in_group g a).1 m.grouped),
  )

  on_object : (a : Op) → Contains (ops_on h o) a ↔ (Contains h a × (object_of a ≡ o))
  on_object a = (
    λ i. let p = (Contains-filter (λ b. id_eq (object_of b).0 o.0) h a).0 i in
        (p.0, λ k. record { 0 = (id_decided (object_of a).0 o.0).0 p.1 k }),
    λ m. (Contains-filter (λ b. id_eq (object_of b).0 o.0) h a).1 (
      m.0,
      (id_decided (object_of a).0 o.0).1 (ap (λ (x : ObjectId). x.0) m.1),
    ),
  )

  ids_rise : IsStrictlySortedBy id_cmp (ids_on h o)
  unfolding IsStrictlySortedBy
  ids_rise = inserted_all id_cmp id_cmp_total id_cmp_exact (map (λ (a : Op). a.id) (ops_on h o)) []
      tt

  ids_held : (i : OpId) → Contains (ids_on h o) i ↔ HasOn h o i
  ids_held i =
      let all = holds_all id_cmp id_cmp_total id_cmp_exact (map (λ (a : Op). a.id) (ops_on h o)) []
      i in (
        λ c. elim (all.0 c) [
          | inl n ↦ absurd (not_Contains-nil i n)
          | inr m ↦ let w = Contains-map_from (λ (a : Op). a.id) (ops_on h o) i m in
              let p = (on_object w.0).0 w.1 in record {
                op = w.0;
                contained = p.0;
                id = sym w.2;
                such = p.1;
              }
        ],
        λ t. all.1 (inr (subst (Contains (map (λ (a : Op). a.id) (ops_on h o))) t.id
            (Contains-map (λ (a : Op). a.id) (ops_on h o) t.op
            ((on_object t.op).1 (t.contained, t.such))))),
      )

  -- ---- the tests

  apart : (g : List OpId) → is_compatible h g ≡ true → (a b : Op) → IsMember h g a → IsMember h g b
      → ¬ (Conflict h a b)
  apart g t a b m n c =
      let row = list_all_true (λ x. list_all (λ y. not (in_conflict h x y)) (members h g))
      (members h g) t a ((member g a).1 m) in
      let none = not-true (in_conflict h a b) (list_all_true (λ y. not (in_conflict h a y))
      (members h g) row b ((member g b).1 n)) in
      let some = (conflict_decided h a b).1 c in absurd cc

  apart_test : (g : List OpId) → ((a b : Op) → IsMember h g a → IsMember h g b → ¬ (Conflict h a b))
      → is_compatible h g ≡ true
  apart_test g f = list_all_from (λ x. list_all (λ y. not (in_conflict h x y)) (members h g))
      (members h g)
      (λ a i. list_all_from (λ y. not (in_conflict h a y)) (members h g)
      (λ b j. elim (cases_Bool (in_conflict h a b)) [
        | inl t ↦ absurd (f a b ((member g a).0 i) ((member g b).0 j)
            ((conflict_decided h a b).0 t))
        | inr n ↦ not_from_false (in_conflict h a b) n
      ]))

  covers : (g : List OpId) → is_largest h o g ≡ true → (a : Op) → Contains h a → object_of a ≡ o
      → ¬ (Contains g a.id) → ConflictsWithin (Conflict h) h g a
  covers g t a i e out = elim (or_cases (is_in g a) (list_any (in_conflict h a) (members h g))
      (list_all_true (λ x. is_in g x || list_any (in_conflict h x) (members h g)) (ops_on h o) t a
      ((on_object a).1 (i, e)))) [
        | inl s ↦ absurd (out ((in_group g a).0 s))
        | inr s ↦ let w = list_any_true (in_conflict h a) (members h g) s in record {
          member = w.0;
          is_member = (member g w.0).0 w.1;
          conflict = (conflict_decided h a w.0).0 w.2;
        }
      ]

  covers_test : (g : List OpId) → ((a : Op) → Contains h a → object_of a ≡ o → ¬ (Contains g a.id)
      → ConflictsWithin (Conflict h) h g a) → is_largest h o g ≡ true
  covers_test g f = list_all_from (λ x. is_in g x || list_any (in_conflict h x) (members h g))
      (ops_on h o) (λ a i. elim (cases_Bool (is_in g a)) [
        | inl s ↦ or_left (is_in g a) (list_any (in_conflict h a) (members h g)) s
        | inr n ↦
            let p = (on_object a).0 i in
            let clash = f a p.0 p.1 (λ c. let s = (in_group g a).1 c in absurd cc) in
            or_right (is_in g a) (list_any (in_conflict h a) (members h g))
            (list_any_from (in_conflict h a) (members h g) clash.member
            ((member g clash.member).1 clash.is_member)
            ((conflict_decided h a clash.member).1 clash.conflict))
      ])

  -- ---- the list

  -- the list has exactly the versions
  pub listed : IsMade h o → (g : List OpId) → Contains (versions_of h o) g ↔ IsVersion h o g
  listed made g =
      let passing = Contains-filter (λ k. is_compatible h k && is_largest h o k)
      (sublists (ids_on h o)) g in (
        λ c.
            let p = passing.0 c in let tests = and_parts (is_compatible h g) (is_largest h o g)
            p.1 in let m = made.made in record {
              rising = sublist_rising id_cmp id_cmp_total (ids_on h o) g ids_rise p.0;
              created = record {
                op = m.op;
                contained = m.contained;
                id = m.id;
                such = λ k. record {
                  0 = (made_object m.op.id m.op.change made.kind m.such ∙ m.id) k;
                };
              };
              makes = subst IsSome (sym m.such) refl;
              members = λ i j. (ids_held i).0 (sublist_within (ids_on h o) g p.0 i j);
              compatible = apart g tests.0;
              largest = covers g tests.1;
            },
        λ v. passing.1 (
          rising_sublist id_cmp id_cmp_total (ids_on h o) g ids_rise v.rising
              (λ i j. (ids_held i).1 (v.members i j)),
          and_from (is_compatible h g) (is_largest h o g) (apart_test g v.compatible)
              (covers_test g v.largest),
        ),
      )

  -- a version within another is that one
  within_same : (g k : List OpId) → IsVersion h o g → IsVersion h o k
      → ((i : OpId) → Contains k i → Contains g i) → g ≡ k
  within_same g k v w within = one_rising id_cmp id_cmp_total g k v.rising w.rising
      (λ i. (λ c. back i c, within i))
    where
      back : (i : OpId) → Contains g i → Contains k i
      back i c = elim (cases_Bool (list_any (id_eq i) k)) [
        | inl t ↦ let f = list_any_true (id_eq i) k t in
            subst (Contains k) (sym ((id_decided i f.0).0 f.2)) f.1
        | inr n ↦
            let m = v.members i c in
            let out : ¬ (Contains k m.op.id) = λ d. let t = list_any_from (id_eq i) k m.op.id d
            ((id_decided i m.op.id).1 (sym m.id)) in absurd cc in
            let clash = w.largest m.op m.contained m.such out in
            absurd (v.compatible m.op clash.member
            (record { contained = m.contained; grouped = subst (Contains g) (sym m.id) c })
            (record {
              contained = clash.is_member.contained;
              grouped = within clash.member.id clash.is_member.grouped;
            }) clash.conflict)
      ]

  -- and it rises
  pub list_rises : IsMade h o → IsStrictlySortedBy (slice_cmp id_cmp) (versions_of h o)
  list_rises made = rising_from_Pairs (slice_cmp id_cmp) (lists_total id_cmp_total)
      (versions_of h o)
      (Pairs-from (StandsBefore id_cmp id_cmp_total) (λ g k. slice_cmp id_cmp g k ≡ Less)
      (versions_of h o) strictly
      (Pairs-filter (StandsBefore id_cmp id_cmp_total) (λ k. is_compatible h k && is_largest h o k)
      (sublists (ids_on h o)) (sublists_in_order id_cmp id_cmp_total (ids_on h o) ids_rise)))
    where
      strictly : (g k : List OpId) → Contains (versions_of h o) g → Contains (versions_of h o) k
          → StandsBefore id_cmp id_cmp_total g k → slice_cmp id_cmp g k ≡ Less
      strictly g k c d (inl l) = l
      strictly g k c d (inr cut) =
          let same = within_same g k ((listed made g).0 c) ((listed made k).0 d) cut.within in
          let lengths = ap length same in let shorter = cut.shorter in absurd (omega arith)

  -- ---- as groups

  abbrev group_on : List OpId → Group
  group_on g = record { object = o; ops = g }

  -- the list is that of the versions
  pub are_versions : IsMade h o → AreVersions h o (map group_on (versions_of h o))
  are_versions made = record {
    exactly = λ g. (
      λ c. let w = Contains-map_from group_on (versions_of h o) g c in
          subst (λ k. (k.object ≡ o) × IsVersionGroup h k) (sym w.2)
          (refl, (listed made w.0).0 w.1),
      λ p. let same : group_on g.ops ≡ g = λ i. record { object = sym p.0 i; ops = g.ops } in
          subst (Contains (map group_on (versions_of h o))) same
          (Contains-map group_on (versions_of h o) g.ops
          ((listed made g.ops).1 (subst (λ x. IsVersion h x g.ops) p.0 p.1))),
    );
    rising = rising_from_Pairs group_cmp group_cmp_total (map group_on (versions_of h o))
        (Pairs-map (λ g k. slice_cmp id_cmp g k ≡ Less) (λ g k. group_cmp g k ≡ Less) group_on
        (versions_of h o) (λ g k l. l)
        (Pairs_from_rising (slice_cmp id_cmp) (lists_total id_cmp_total) (versions_of h o)
        (list_rises made)));
  }

  -- and there is one such list
  pub one_list : (groups others : List Group) → AreVersions h o groups → AreVersions h o others
      → groups ≡ others
  one_list groups others a b = one_rising group_cmp group_cmp_total groups others a.rising b.rising
      (λ g. (λ c. (b.exactly g).1 ((a.exactly g).0 c), λ c. (a.exactly g).1 ((b.exactly g).0 c)))

-- ---- the versions of all objects

-- the versions of the object that an operation makes, if it makes one
abbrev made_versions : List Op → Op → Option Kind → List Group
made_versions h a None = []
made_versions h a (Some k) = map (group_on h (record { 0 = a.id }))
    (versions_of h (record { 0 = a.id }))

made_listed : (h : List Op) (a : Op) (k : Option Kind) → Contains h a → made_kind a.change ≡ k
    → (g : Group) → Contains (made_versions h a k) g → IsVersionGroup h g
made_listed h a None i e g c = absurd (not_Contains-nil g c)
made_listed h a (Some k) i e g c =
    let p = ((are_versions h (record { 0 = a.id })
    (record { kind = k; made = record { op = a; contained = i; id = refl; such = e } })).exactly
    g).0 c in p.1

made_held : (h : List Op) (a : Op) (k : Option Kind) → Contains h a → made_kind a.change ≡ k
    → IsSome k → (g : Group) → a.id ≡ g.object.0 → IsVersionGroup h g
    → Contains (made_versions h a k) g
made_held h a None i e s g id v = absurd cc
made_held h a (Some k) i e s g id v =
    ((are_versions h (record { 0 = a.id })
    (record { kind = k; made = record { op = a; contained = i; id = refl; such = e } })).exactly
    g).1 ((λ j. record { 0 = sym id j }), v)

abbrev versions_among : List Op → List Op → List Group
versions_among h [] = []
versions_among h (a ∷ ops) = made_versions h a (made_kind a.change) ++ versions_among h ops

among_listed : (h ops : List Op) → ((a : Op) → Contains ops a → Contains h a) → (g : Group)
    → Contains (versions_among h ops) g → IsVersionGroup h g
among_listed h [] f g c = absurd (not_Contains-nil g c)
among_listed h (a ∷ ops) f g c =
    elim (Contains-append_cases (made_versions h a (made_kind a.change)) (versions_among h ops) g
    c) [
      | inl i ↦ made_listed h a (made_kind a.change) (f a (Contains-cons_head a ops)) refl g i
      | inr i ↦ among_listed h ops (λ b j. f b (Contains-cons_tail a ops b j)) g i
    ]

among_held : (h ops : List Op) → ((a : Op) → Contains ops a → Contains h a) → (a : Op)
    → Contains ops a → IsSome (made_kind a.change) → (g : Group) → a.id ≡ g.object.0
    → IsVersionGroup h g → Contains (versions_among h ops) g
among_held h [] f a i s g id v = absurd (not_Contains-nil a i)
among_held h (b ∷ ops) f a i s g id v = elim (Contains-cons_cases b ops a i) [
  | inl e ↦ Contains-append_left (made_versions h b (made_kind b.change)) (versions_among h ops) g
      (made_held h b (made_kind b.change) (f b (Contains-cons_head b ops)) refl
      (subst (λ (x : Op). IsSome (made_kind x.change)) e s) g (sym (ap (λ (x : Op). x.id) e) ∙ id)
      v)
  | inr j ↦ Contains-append_right (made_versions h b (made_kind b.change)) (versions_among h ops) g
      (among_held h ops (λ c k. f c (Contains-cons_tail b ops c k)) a j s g id v)
]

-- a history has finitely many versions
pub all_listed : (h : List Op)
    → (groups : List Group) × ((g : Group) → Contains groups g ↔ IsVersionGroup h g)
all_listed h = (
  versions_among h h,
  λ g. (
    among_listed h h (λ a i. i) g,
    λ v. among_held h h (λ a i. i) v.created.op v.created.contained v.makes g v.created.id v,
  ),
)
