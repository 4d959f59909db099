-- In a history of creations alone each operation is the one version of its own object.
use Rattle.std.proofs.Common.{◌≡◌, List, [], ◌∷◌, refl, subst, sym, ap, ◌∙◌, inl, inr}
use Rattle.std.specs.Prelude.{Contains, Some}
use Rattle.std.proofs.lemmas.List.Elements.{All-nil}
use Rattle.std.specs.declared.cmp.Ordering.TheVariants.{Less}
use Rattle.gf_ops.specs.declared.op.Op.{Op}
use Rattle.gf_ops.specs.declared.op.OpId.{OpId}
use Rattle.gf_ops.specs.declared.op.ObjectId.{ObjectId}
use Rattle.gf_ops.specs.declared.change.Attr.{Attr}
use Rattle.gf_ops.specs.declared.change.Attr.TheVariants as attr
use Rattle.gf_ops.specs.declared.change.Change.{Change}
use Rattle.gf_ops.specs.declared.change.Change.TheVariants.{Create}
use Rattle.gf_ops.specs.declared.change.Form.{Form}
use Rattle.gf_ops.specs.declared.change.Form.TheVariants as form
use Rattle.gf_ops.specs.declared.change.Start.{Start}
use Rattle.gf_ops.specs.declared.change.Value.{Value}
use Rattle.gf_ops.specs.Aims.{Brings}
use Rattle.gf_ops.specs.Attribute.{change_aim, changed_object, change_value, form_attribute}
use Rattle.gf_ops.specs.Attribute.{form_value, made_kind, object_of, start_value}
use Rattle.gf_ops.specs.OperationOrder.{Precedes, id_cmp}
use Rattle.gf_ops.specs.SettledValue.{IsSettled}
use Rattle.gf_ops.specs.ValidHistory.{IsValid}
use Rattle.gf_ops.specs.Version.{IsVersion}
use Rattle.gf_base.proofs.ListLemmas.{Contains-cons_cases, Contains-cons_head, not_Contains-nil}
use Rattle.gf_ops.proofs.ValidityLemmas.{same_op, precedes_irreflexive}
use Rattle.gf_ops.proofs.IdLemmas.{id_cmp_total}
use Rattle.gf_base.proofs.RisingLemmas.{one_rising, rising_cons, rising_nil}
use Rattle.gf_versions.specs.declared.key.Version.{Version}
use Rattle.gf_versions.specs.VersionOf.{IsVersionOf}
use Rattle.gf_versions.proofs.MakerLemmas.{maker_grouped}
use Rattle.gf_versions.proofs.VersionLemmas.{one_of_group}

-- a makes an object that begins with start
pub record Makes (a : Op) : Type 0 where
  pub start : Start
  pub is : a.change ≡ Create start

-- the version of the object that a makes, as it begins
abbrev pub first_version : Op → Start → Version
first_version a s = record {
  key = record {
    layer = s.layer;
    object = record { 0 = a.id };
    ops
        = a.id ∷ [];
  };
  form = s.form;
  place = s.place;
  colour = s.colour;
  shown = s.shown;
}

-- v is the version of an object of h, as it begins
pub record IsFirst (h : List Op) (v : Version) : Type 0 where
  pub op : Op
  pub start : Start
  pub contained : Contains h op
  pub made : op.change ≡ Create start
  pub is : v ≡ first_version op start

in_one : {X : Type 0} (i j : X) → Contains (i ∷ []) j → j ≡ i
in_one i j c = elim (Contains-cons_cases i [] j c)
    [ inl e ↦ e | inr d ↦ absurd (not_Contains-nil j d) ]

own_object : (a : Op) (s : Start) → a.change ≡ Create s → object_of a ≡ record { 0 = a.id }
own_object a s e = ap (changed_object a.id) e

form_start : (s : Start) (f : Form) → s.form ≡ f → start_value s (form_attribute f)
    ≡ Some (form_value f)
form_start s (form.Rect w k) e = rw e refl
form_start s (form.Circle r) e = rw e refl
form_start s (form.Ellipse rx ry) e = rw e refl
form_start s (form.Polygon ps) e = rw e refl

module _ (h : List Op) (valid : IsValid h) (made : (a : Op) → Contains h a → Makes a) where
  settled : (a : Op) (s : Start) (t : Attr) (v : Value) → Contains h a → a.change ≡ Create s
      → start_value s t ≡ Some v → IsSettled h (a.id ∷ []) t v
  settled a s t v c e g = record {
    setter = a;
    member = record { contained = c; grouped = Contains-cons_head a.id [] };
    gives = ap (λ (d : Change). change_value d t) e ∙ g;
    last = λ b m some before. precedes_irreflexive h valid a c
        (subst (Precedes a) (same_op h valid b a m.contained c (in_one a.id b.id m.grouped))
        before);
  }

  -- a creation aims at nothing
  brings_itself : (b x : Op) → Contains h b → Brings h b x → x ≡ b
  brings_itself b x c brings = elim brings [
    | inl e ↦ e
    | inr aims ↦ absurd (not_Contains-nil x.id
        (subst (λ (d : Change). Contains (change_aim d) x.id) (made b c).is aims.aimed))
  ]

  alone : (a : Op) (s : Start) → Contains h a → a.change ≡ Create s
      → IsVersion h (record { 0 = a.id }) (a.id ∷ [])
  alone a s c e = record {
    rising = rising_cons id_cmp id_cmp_total a.id [] (All-nil (λ y. id_cmp a.id y ≡ Less))
        (rising_nil id_cmp id_cmp_total);
    created = record { op = a; contained = c; id = refl; such = own_object a s e };
    makes = rw e refl;
    members = λ i m. record {
      op = a;
      contained = c;
      id = sym (in_one a.id i m);
      such = own_object a s e;
    };
    compatible = λ b d m n clash.
        let first = brings_itself b clash.first m.contained clash.brings_first in
        let second = brings_itself d clash.second n.contained clash.brings_second in
        let one = same_op h valid b d m.contained n.contained
        (in_one a.id b.id m.grouped ∙ sym (in_one a.id d.id n.grouped)) in
        clash.direct.concurrent.different (first ∙ (one ∙ sym second));
    largest = λ b m o none.
        let k = made b m in
        let same : b.id ≡ a.id = ap (λ (p : ObjectId). p.0) (sym (own_object b k.start k.is) ∙ o) in
        absurd (none (subst (Contains (a.id ∷ [])) (sym same) (Contains-cons_head a.id [])));
  }

  pub first_is_version : (a : Op) (s : Start) → Contains h a → a.change ≡ Create s
      → IsVersionOf h (first_version a s)
  first_is_version a s c e = record {
    version = alone a s c e;
    kind = record { op = a; contained = c; id = refl; such = ap made_kind e };
    form = settled a s (form_attribute s.form) (form_value s.form) c e (form_start s s.form refl);
    place = settled a s attr.Place _ c e refl;
    colour = settled a s attr.Colour _ c e refl;
    layer = settled a s attr.Layer _ c e refl;
    shown = settled a s attr.Shown _ c e refl;
  }

  -- the group of a version is the creation of its object
  group_alone : (o : ObjectId) (g : List OpId) → IsVersion h o g → g ≡ o.0 ∷ []
  group_alone o g v =
      let there : Contains g o.0 = subst (Contains g) v.created.id
      (maker_grouped h valid o g v).grouped in
      one_rising id_cmp id_cmp_total g (o.0 ∷ []) v.rising
      (rising_cons id_cmp id_cmp_total o.0 [] (All-nil (λ y. id_cmp o.0 y ≡ Less))
      (rising_nil id_cmp id_cmp_total))
      (λ i. (
        λ c.
            let on = v.members i c in
            let k = made on.op on.contained in
            let same : i ≡ o.0 = sym on.id ∙ ap (λ (p : ObjectId). p.0)
            (sym (own_object on.op k.start k.is) ∙ on.such) in
            subst (Contains (o.0 ∷ [])) (sym same) (Contains-cons_head o.0 []),
        λ c. subst (Contains g) (sym (in_one o.0 i c)) there,
      ))

  pub version_is_first : (v : Version) → IsVersionOf h v → IsFirst h v
  version_is_first v is =
      let maker = is.version.created in
      let k = made maker.op maker.contained in
      let object : v.key.object ≡ record { 0 = maker.op.id } = sym maker.such
      ∙ own_object maker.op k.start k.is in
      let ops : v.key.ops ≡ maker.op.id ∷ [] = group_alone v.key.object v.key.ops is.version
      ∙ ap (λ i. i ∷ []) (sym maker.id) in
      record {
        op = maker.op;
        start = k.start;
        contained = maker.contained;
        made = k.is;
        is = one_of_group h valid v (first_version maker.op k.start) is
            (first_is_version maker.op k.start maker.contained k.is) object ops;
      }
