-- What is said of an object says the same of two valid histories with the same operations on it.
use Rattle.std.proofs.Common.{◌≡◌, ◌≢◌, List, [], ◌∷◌, ◌++◌, sym, subst, ap, ◌∙◌, inl, inr}
use Rattle.std.specs.Prelude.{Contains, Some}
use Rattle.std.proofs.lemmas.List.Elements.{Contains-append_left, Contains-push_cases}
use Rattle.gf_shape.specs.declared.any_shape.AnyShape.{AnyShape}
use Rattle.gf_ops.specs.declared.op.Op.{Op}
use Rattle.gf_ops.specs.declared.op.OpId.{OpId}
use Rattle.gf_ops.specs.declared.op.ObjectId.{ObjectId}
use Rattle.gf_ops.specs.declared.change.Attr.{Attr}
use Rattle.gf_ops.specs.declared.change.Change.{Change}
use Rattle.gf_ops.specs.declared.change.Change.TheVariants.{Create, Set}
use Rattle.gf_ops.specs.declared.change.Value.{Value}
use Rattle.gf_ops.specs.Aims.{AimsAt, Brings}
use Rattle.gf_ops.specs.Attribute.{Kind, changed_object, made_kind, object_of}
use Rattle.gf_ops.specs.Conflict.{Conflict}
use Rattle.gf_ops.specs.SettledValue.{IsSettled}
use Rattle.gf_ops.specs.ValidHistory.{IsValid}
use Rattle.gf_ops.specs.Version.{ConflictsWithin, IsMember, IsVersion}
use Rattle.gf_ops.specs.HasOperation.{HasOn, IsOfKind}
use Rattle.gf_ops.proofs.ValidityLemmas.{same_op}
use Rattle.gf_groups.specs.declared.group.Group.{Group}
use Rattle.gf_groups.specs.Versions.{IsMade}
use Rattle.gf_versions.specs.declared.key.Version.{Version}
use Rattle.gf_versions.specs.declared.placed.Placed.{Placed}
use Rattle.gf_versions.specs.Ranking.{IsPlaced}
use Rattle.gf_versions.specs.VersionOf.{IsVersionOf}
use Rattle.gf_versions.specs.Visible.{IsVisible}
use Rattle.gf_visible.specs.ShownVersions.{IsVisibleGroup}
use Rattle.gf_kept.specs.SameOn.{HaveSameOn}

pub same_back : (o : ObjectId) (h k : List Op) → HaveSameOn o h k → HaveSameOn o k h
same_back o h k same a on = let both = same a on in (both.1, both.0)

-- one more operation is on no other object
pub same_beside : (h : List Op) (a : Op) (o : ObjectId) → object_of a ≢ o
    → HaveSameOn o h (h ++ a ∷ [])
same_beside h a o off b on = (
  λ c. Contains-append_left h (a ∷ []) b c,
  λ c. elim (Contains-push_cases h a b c) [
    | inl d ↦ d
    | inr e ↦ absurd (off (ap (λ (x : Op). object_of x) e ∙ on))
  ],
)

made_on : (i : OpId) (c : Change) (o : ObjectId) (t : Kind) → i ≡ o.0 → made_kind c ≡ Some t
    → changed_object i c ≡ o
made_on i (Create s) o t e m = λ n. record { 0 = e n }
made_on i (Set p v aim) o t e m = absurd cc

-- what an operation on the object aims at is on the object
aimed_on : (h : List Op) → IsValid h → (a x : Op) → Contains h a → AimsAt h a x
    → object_of x ≡ object_of a
aimed_on h valid a x c t =
    let m = ((valid.aimed a c).each x.id t.aimed).on in
    let one = same_op h valid m.op x m.contained t.contained m.id in
    subst (λ (b : Op). object_of b ≡ object_of a) one m.such

-- ---- conflicts

module _ (h k : List Op) (valid : IsValid h) (o : ObjectId) (same : HaveSameOn o h k) where
  brings : (a x : Op) → Contains h a → object_of a ≡ o → Brings h a x → Brings k a x
  brings a x c on b = elim b [
    | inl e ↦ inl e
    | inr t ↦ inr (record {
      contained = (same x (aimed_on h valid a x c t ∙ on)).0 t.contained;
      aimed = t.aimed;
    })
  ]

  pub conflicts_on : (a b : Op) → Contains h a → Contains h b → object_of a ≡ o → object_of b ≡ o
      → Conflict h a b → Conflict k a b
  conflicts_on a b c d on beside x = record {
    first = x.first;
    second = x.second;
    brings_first = brings a x.first c on x.brings_first;
    brings_second = brings b x.second d beside x.brings_second;
    direct = x.direct;
  }

  pub kind_on : (t : Kind) → IsOfKind h o t → IsOfKind k o t
  kind_on t x = record {
    op = x.op;
    contained = (same x.op (made_on x.op.id x.op.change o t x.id x.such)).0 x.contained;
    id = x.id;
    such = x.such;
  }

-- ---- members of a group on the object

-- h has all the ids, on the object o
abbrev pub AllOn : List Op → ObjectId → List OpId → Type 0
AllOn h o g = (i : OpId) → Contains g i → HasOn h o i

members_on : (h k : List Op) (o : ObjectId) → HaveSameOn o h k → (g : List OpId) → AllOn h o g
    → AllOn k o g
members_on h k o same g all i c = let x = all i c in record {
  op = x.op;
  contained = (same x.op x.such).0 x.contained;
  id = x.id;
  such = x.such;
}

-- a member is on the object
member_on : (h : List Op) → IsValid h → (o : ObjectId) (g : List OpId) → AllOn h o g → (a : Op)
    → IsMember h g a → object_of a ≡ o
member_on h valid o g all a m =
    let x = all a.id m.grouped in
    subst (λ (b : Op). object_of b ≡ o) (same_op h valid x.op a x.contained m.contained x.id)
    x.such

pub member_too : (h k : List Op) → IsValid h → (o : ObjectId) → HaveSameOn o h k → (g : List OpId)
    → AllOn h o g → (a : Op) → IsMember h g a → IsMember k g a
member_too h k valid o same g all a m = record {
  contained = (same a (member_on h valid o g all a m)).0 m.contained;
  grouped = m.grouped;
}

-- ---- versions

module _ (h k : List Op) (valid : IsValid h) (too : IsValid k) (o : ObjectId)
    (same : HaveSameOn o h k) where
  back : HaveSameOn o k h
  back = same_back o h k same

  clashes : (g : List OpId) → AllOn h o g → (a : Op) → Contains h a → object_of a ≡ o
      → ConflictsWithin (Conflict h) h g a → ConflictsWithin (Conflict k) k g a
  clashes g all a c on x = record {
    member = x.member;
    is_member = member_too h k valid o same g all x.member x.is_member;
    conflict = conflicts_on h k valid o same a x.member c x.is_member.contained on
        (member_on h valid o g all x.member x.is_member) x.conflict;
  }

  pub version_on : (g : List OpId) → IsVersion h o g → IsVersion k o g
  version_on g x =
      let all = members_on h k o same g x.members in
      let on = member_on k too o g all in
      let within = member_too k h too o back g all in
      record {
        rising = x.rising;
        created = record {
          op = x.created.op;
          contained = (same x.created.op x.created.such).0 x.created.contained;
          id = x.created.id;
          such = x.created.such;
        };
        makes = x.makes;
        members = all;
        compatible = λ a b m n c. x.compatible a b (within a m) (within b n)
            (conflicts_on k h too o back a b m.contained n.contained (on a m) (on b n) c);
        largest = λ a c e n.
            let d = (back a e).0 c in
            clashes g x.members a d e (x.largest a d e n);
      }

  settled_on : (g : List OpId) → IsVersion h o g → (t : Attr) (v : Value) → IsSettled h g t v
      → IsSettled k g t v
  settled_on g version t v x =
      let all = members_on h k o same g version.members in
      record {
        setter = x.setter;
        member = member_too h k valid o same g version.members x.setter x.member;
        gives = x.gives;
        last = λ b m s. x.last b (member_too k h too o back g all b m) s;
      }

-- ---- versions of the object with their values

module _ (h k : List Op) (valid : IsValid h) (too : IsValid k) where
  pub version_of_on : (v : Version) → HaveSameOn v.key.object h k → IsVersionOf h v
      → IsVersionOf k v
  version_of_on v same x =
      let o = v.key.object in
      let settled = settled_on h k valid too o same v.key.ops x.version in
      record {
        version = version_on h k valid too o same v.key.ops x.version;
        kind = kind_on h k valid o same _ x.kind;
        form = settled _ _ x.form;
        place = settled _ _ x.place;
        colour = settled _ _ x.colour;
        layer = settled _ _ x.layer;
        shown = settled _ _ x.shown;
      }

  pub visible_on : (v : Version) → HaveSameOn v.key.object h k → IsVisible h v → IsVisible k v
  visible_on v same x = record {
    version = version_of_on v same x.version;
    shown = x.shown;
  }

  pub placed_on : (i : Placed AnyShape) → HaveSameOn i.key.object h k → IsPlaced h i
      → IsPlaced k i
  placed_on i same x =
      let one = ap (λ (j : Placed AnyShape). j.key.object) x.placed in
      record {
        version = x.version;
        visible = visible_on x.version (subst (λ p. HaveSameOn p h k) one same) x.visible;
        placed = x.placed;
      }

  pub made_too : (o : ObjectId) → HaveSameOn o h k → IsMade h o → IsMade k o
  made_too o same x = record { kind = x.kind; made = kind_on h k valid o same x.kind x.made }

  pub visible_group_on : (g : Group) → HaveSameOn g.object h k → IsVisibleGroup h g
      → IsVisibleGroup k g
  visible_group_on g same x =
      let one = ap (λ (z : Group). z.object) (sym x.group) in
      record {
        version = x.version;
        visible = visible_on x.version (subst (λ p. HaveSameOn p h k) one same) x.visible;
        group = x.group;
      }
