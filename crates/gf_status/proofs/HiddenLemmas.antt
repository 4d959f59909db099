-- The hidings of an object, and the changes of what is hidden.
use Rattle.std.proofs.Common.{◌≡◌, not, List, [], ◌∷◌, length, map}
use Rattle.std.proofs.Common.{refl, sym, ap, subst, ◌∙◌, inl, inr, arith}
use Rattle.std.specs.Prelude.{◌↔◌, Contains, IsTrue, filter, flat_map, is_some}
use Rattle.std.specs.BTreeSet.{BTreeSet, contains, insert_key}
use Rattle.std.specs.List.{fold}
use Rattle.std.proofs.lemmas.Bool.{and_from, and_parts, cases_Bool, not_from_false}
use Rattle.std.proofs.lemmas.List.Elements.{Contains-append_cases, Contains-append_left}
use Rattle.std.proofs.lemmas.List.Elements.{Contains-append_right}
use Rattle.std.proofs.lemmas.Map.Views.{btree_set_contains_iff}
use Rattle.gf_base.proofs.ListLemmas.{Contains-cons_cases, Contains-cons_head, Contains-cons_tail}
use Rattle.gf_base.proofs.ListLemmas.{Contains-map, Contains-map_from, not_Contains-nil}
use Rattle.gf_base.proofs.InsertLemmas.{holds_all}
use Rattle.gf_ops.specs.declared.op.Op.{Op}
use Rattle.gf_ops.specs.declared.op.OpId.{OpId}
use Rattle.gf_ops.specs.declared.op.ObjectId.{ObjectId}
use Rattle.gf_ops.specs.declared.change.Attr.TheVariants as attr
use Rattle.gf_ops.specs.OperationOrder.{id_cmp}
use Rattle.gf_groups.specs.declared.group.Group.{Group}
use Rattle.gf_ops.proofs.IdLemmas.{id_cmp_exact, id_cmp_total}
use Rattle.gf_names.specs.RisingIds.{IsRisingOf}
use Rattle.gf_listing.specs.Listed.{AreOn}
use Rattle.gf_visible.specs.ShownVersions.{AreVisibleOn}
use Rattle.gf_status.specs.Hidings.{AreLastHidings, HidesLast, ShowsOrHides}
use Rattle.gf_status.specs.ObjectStatuses.{TellsHidings}
use Rattle.gf_status.specs.Setters.{AreLastOf, AreOf, AreSettersOn, AreThose, IsUnknowing, hides}
use Rattle.gf_status.specs.Setters.{sets, where_none}
use Rattle.gf_status.specs.UnseenChanges.{AreUnseen, ChangesUnseen}
use Rattle.gf_status.proofs.LastLemmas.{Contains-kept, not_told}
use Rattle.gf_status.proofs.UnseenLemmas.{change_hides, hides_change, left_none}

-- ---- what the elements of a list have

Contains-flat_map_from : {X Y : Type 0} (f : X → List Y) (xs : List X) (y : Y)
    → Contains (flat_map f xs) y → (x : X) × Contains xs x × Contains (f x) y
Contains-flat_map_from f [] y c = absurd (not_Contains-nil y c)
Contains-flat_map_from f (x ∷ xs) y c = elim (Contains-append_cases (f x) (flat_map f xs) y c) [
  | inl k ↦ (x, Contains-cons_head x xs, k)
  | inr k ↦ let w = Contains-flat_map_from f xs y k in
      (w.0, Contains-cons_tail x xs w.0 w.1, w.2)
]

Contains-flat_map : {X Y : Type 0} (f : X → List Y) (xs : List X) (x : X) (y : Y) → Contains xs x
    → Contains (f x) y → Contains (flat_map f xs) y
Contains-flat_map f [] x y i c = absurd (not_Contains-nil x i)
Contains-flat_map f (z ∷ xs) x y i c = elim (Contains-cons_cases z xs x i) [
  | inl e ↦ Contains-append_left (f z) (flat_map f xs) y (subst (λ u. Contains (f u) y) e c)
  | inr k ↦ Contains-append_right (f z) (flat_map f xs) y (Contains-flat_map f xs x y k c)
]

-- ---- ids of operations

-- the ids of some operations are those under which one of these is
pub ids_told : {X : Type 0} (f : X → Op) (xs : List X) (ids : List OpId)
    → IsRisingOf (map (λ x. (f x).id) xs) ids → (i : OpId)
    → Contains ids i ↔ ((a : Op) × Contains (map f xs) a × (a.id ≡ i))
ids_told f xs ids r i = (
  λ c. let w = Contains-map_from (λ x. (f x).id) xs i ((r.exactly i).0 c) in
      (f w.0, Contains-map f xs w.0 w.1, sym w.2),
  λ u. let w = Contains-map_from f xs u.0 u.1 in
      (r.exactly i).1 (subst (Contains (map (λ x. (f x).id) xs))
      (ap (λ (z : Op). z.id) (sym w.2) ∙ u.2) (Contains-map (λ x. (f x).id) xs w.0 w.1)),
)

-- a set has the ids that it was made of
pub set_told : (ids : List OpId) (set : BTreeSet OpId)
    → set.keys ≡ fold (insert_key id_cmp) [] ids → (i : OpId)
    → IsTrue (contains id_cmp set i) ↔ Contains ids i
set_told ids set e i =
    let there = btree_set_contains_iff id_cmp_total id_cmp_exact set i in
    let all = holds_all id_cmp id_cmp_total id_cmp_exact ids [] i in (
      λ t. elim (all.0 (subst (λ is. Contains is i) e (there.0 t))) [
        | inl n ↦ absurd (not_Contains-nil i n)
        | inr k ↦ k
      ],
      λ c. there.1 (subst (λ is. Contains is i) (sym e) (all.1 (inr c))),
    )

module _ {X : Type 0} (f : X → Op) (h : List Op) (o : ObjectId) (all set : List X)
    (on : AreOn h o (map f all)) (is : set ≡ filter (λ x. sets attr.Shown (f x)) all) where
  -- ---- what shows or hides the object

  pub setters_on : AreSettersOn h o (map f set)
  setters_on a =
      let is_set = Contains-kept f (sets attr.Shown) all set is a in (
        λ c.
            let k = is_set.0 c in
            let w = (on a).0 k.0 in
            record { contained = w.0; object = w.1; sets = k.1 },
        λ s. is_set.1 ((on a).1 (s.contained, s.object), s.sets),
      )

  pub setters_of : AreOf h (map f set)
  setters_of a c = ((setters_on a).0 c).contained

  -- ---- the last hidings

  module _ (ls hiding : List X) (last : AreLastOf (map f set) (map f ls))
      (e : hiding ≡ filter (λ x. hides (f x).change) ls) where
    hiding_last : (a : Op) → Contains (map f hiding) a ↔ HidesLast h o a
    hiding_last a =
        let is_hiding = Contains-kept f (λ b. hides b.change) ls hiding e a in (
          λ c.
              let k = is_hiding.0 c in
              let s = (setters_on a).0 (last.within a k.0) in
              record {
                contained = s.contained;
                object = s.object;
                hides = change_hides a.change k.1;
                last = λ b t p. last.last a b k.0 ((setters_on b).1 t) p;
              },
          λ l.
              let s : ShowsOrHides h o a = record {
                contained = l.contained;
                object = l.object;
                sets = rw l.hides refl;
              } in
              elim (last.others a ((setters_on a).1 s)) [
                | inl k ↦ is_hiding.1 (k, hides_change a.change l.hides)
                | inr w ↦ absurd (l.last w.0 ((setters_on w.0).0 (last.within w.0 w.1)) w.2)
              ],
        )

    -- THE LAST HIDINGS of the object
    pub hidings_told : (ids : List OpId) → IsRisingOf (map (λ x. (f x).id) hiding) ids
        → AreLastHidings h o ids
    hidings_told ids r = record {
      exactly = λ i. (
        λ c. let w = (ids_told f hiding ids r i).0 c in
            record { op = w.0; id = w.2; hides = (hiding_last w.0).0 w.1 },
        λ u. (ids_told f hiding ids r i).1 (u.op, (hiding_last u.op).1 u.hides, u.id),
      );
      rising = r.rising;
    }

  -- ---- what is not shown

  module _ (groups : List Group) (visible : AreVisibleOn h o groups) (seen : BTreeSet OpId)
      (members : (i : OpId) → IsTrue (contains id_cmp seen i)
      ↔ Contains (flat_map (λ (g : Group). g.ops) groups) i)
      (changed : List X)
      (those : AreThose (IsUnknowing h o seen) (map f all) (map f changed)) where
    unseen_told : (a : Op) → Contains (map f changed) a ↔ ChangesUnseen h o a
    unseen_told a = (
      λ c.
          let w = (those a).0 c in
          let there = (on a).0 w.0 in
          let u = w.1 in
          let both = and_parts (not (sets attr.Shown a)) (not (contains id_cmp seen a.id))
          u.left_out in
          record {
            contained = there.0;
            object = there.1;
            other = left_none seen a u.left_out;
            unseen = λ g on_o shown i.
                let listed = (visible.exactly g).1 (on_o, shown) in
                let t = (members a.id).1
                (Contains-flat_map (λ (g : Group). g.ops) groups g a.id listed i) in
                let n = not_told (contains id_cmp seen a.id) both.1 in
                absurd cc;
            hiding = u.hiding;
            beside = u.beside;
            concurrent = u.concurrent;
          },
      λ u. (those a).1 (
        (on a).1 (u.contained, u.object),
        record {
          left_out = and_from (not (sets attr.Shown a)) (not (contains id_cmp seen a.id))
              (ap (λ r. not (is_some r)) u.other) (elim (cases_Bool (contains id_cmp seen a.id)) [
                | inl y ↦
                    let w = Contains-flat_map_from (λ (g : Group). g.ops) groups a.id
                    ((members a.id).0 y) in
                    let v = (visible.exactly w.0).0 w.1 in
                    absurd (u.unseen w.0 v.0 v.1 w.2)
                | inr n ↦ not_from_false (contains id_cmp seen a.id) n
              ]);
          hiding = u.hiding;
          beside = u.beside;
          concurrent = u.concurrent;
        },
      ),
    )

    -- THE CHANGES of what is not shown
    pub changes_told : (ids : List OpId) → IsRisingOf (map (λ x. (f x).id) changed) ids
        → AreUnseen h o ids
    changes_told ids r = record {
      exactly = λ i. (
        λ c. let w = (ids_told f changed ids r i).0 c in
            record { op = w.0; id = w.2; changes = (unseen_told w.0).0 w.1 },
        λ u. (ids_told f changed ids r i).1 (u.op, (unseen_told u.op).1 u.changes, u.id),
      );
      rising = r.rising;
    }

-- ---- of a hidden object alone

pub hidings_where : (h : List Op) (o : ObjectId) (groups : List Group) (ids : List OpId)
    → AreLastHidings h o ids → TellsHidings h o (length groups) (where_none groups ids)
hidings_where h o [] ids are = record {
  hidden = λ e. are;
  visible = λ l. absurd (omega (arith, l));
}
hidings_where h o (g ∷ gs) ids are = record {
  hidden = λ e. absurd (omega (arith, e));
  visible = λ l. refl;
}
