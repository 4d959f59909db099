-- The creation of an object is in each version of the object, and tells its kind.
use Rattle.std.proofs.Common.{◌≡◌, ℕ, List, [], ◌∷◌, refl, subst, sym, ap, ◌∙◌, inl, inr}
use Rattle.std.specs.Prelude.{◌⊎◌, Contains, Option, Some, None, IsSome, IsTrue}
use Rattle.std.proofs.lemmas.Bool.{cases_eq}
use Rattle.std.proofs.lemmas.Bool.Decides.{Decides-eqb}
use Rattle.gf_ops.specs.declared.op.Op.{Op}
use Rattle.gf_ops.specs.declared.op.OpId.{OpId}
use Rattle.gf_ops.specs.declared.op.ObjectId.{ObjectId}
use Rattle.gf_ops.specs.declared.change.Attr.{Attr}
use Rattle.gf_ops.specs.declared.change.Attr.TheVariants as attr
use Rattle.gf_ops.specs.declared.change.Change.{Change}
use Rattle.gf_ops.specs.declared.change.Change.TheVariants.{Create, Set}
use Rattle.gf_ops.specs.declared.change.Form.{Form}
use Rattle.gf_ops.specs.declared.change.Form.TheVariants as form
use Rattle.gf_ops.specs.declared.change.Start.{Start}
use Rattle.gf_ops.specs.declared.change.Value.{Value}
use Rattle.gf_ops.specs.declared.change.Value.TheVariants.{Size}
use Rattle.gf_ops.specs.Attribute.{Kind, Circle, form_value, value_given, change_value, value_as}
use Rattle.gf_ops.specs.Attribute.{start_value, made_kind, kind_of, suits, object_of}
use Rattle.gf_ops.specs.Attribute.{changed_object, change_aim}
use Rattle.gf_ops.specs.DirectConflict.{DirectConflict}
use Rattle.gf_ops.specs.KnownObject.{IsSuited}
use Rattle.gf_ops.specs.OperationOrder.{Precedes}
use Rattle.gf_ops.specs.ValidHistory.{IsValid}
use Rattle.gf_ops.specs.Version.{IsMember, IsVersion}
use Rattle.gf_ops.specs.HasOperation.{IsOfKind}
use Rattle.gf_versions.specs.Settling.{has, HasAttribute}
use Rattle.gf_base.proofs.ListLemmas.{Contains-cons_cases, Contains-cons_head, Contains-cons_tail}
use Rattle.gf_base.proofs.ListLemmas.{not_Contains-nil}
use Rattle.gf_ops.proofs.ValidityLemmas.{same_op}

-- ---- ids in groups

same_id_cases : (i j : OpId) → (i ≡ j) ⊎ (i ≡ j → ⊥)
same_id_cases i j = elim (cases_eq i.site j.site) [
  | inl s ↦ elim (cases_eq i.seq j.seq) [
    | inl n ↦ inl (λ k. record { site = s k; seq = n k })
    | inr n ↦ inr (λ e. n (ap (λ (l : OpId). l.seq) e))
  ]
  | inr s ↦ inr (λ e. s (ap (λ (l : OpId). l.site) e))
]

grouped_cases : (g : List OpId) (i : OpId) → Contains g i ⊎ (¬ (Contains g i))
grouped_cases [] i = inr (not_Contains-nil i)
grouped_cases (j ∷ g) i = elim (same_id_cases i j) [
  | inl e ↦ inl (subst (λ k. Contains (j ∷ g) k) (sym e) (Contains-cons_head j g))
  | inr n ↦ elim (grouped_cases g i) [
    | inl c ↦ inl (Contains-cons_tail j g i c)
    | inr m ↦ inr (λ c. elim (Contains-cons_cases j g i c) [ inl e ↦ n e | inr d ↦ m d ])
  ]
]

-- ---- what creations give

pub some_value : {X : Type 0} (r : Option X) → IsSome r → (v : X) × (r ≡ Some v)
some_value None s = absurd cc
some_value (Some v) s = (v, refl)

-- a new object has a value of each attribute of its kind
form_sets : (s : Start) (f : Form) (t : Attr) → s.form ≡ f → IsTrue (has (kind_of f) t)
    → IsSome (start_value s t)
form_sets s (form.Rect width height) attr.Size e i = rw e refl
form_sets s (form.Circle radius) attr.Size e i = rw e refl
form_sets s (form.Ellipse rx ry) attr.Size e i = rw e refl
form_sets s (form.Polygon ps) attr.Points e i = rw e refl
form_sets s f attr.Place e i = refl
form_sets s f attr.Colour e i = refl
form_sets s f attr.Layer e i = refl
form_sets s f attr.Shown e i = refl
form_sets s f t e i = absurd cc

change_sets : (c : Change) (k : Kind) (t : Attr) → made_kind c ≡ Some k → IsTrue (has k t)
    → IsSome (change_value c t)
change_sets (Create s) k t e i = let same : kind_of s.form ≡ k = cc in
    form_sets s s.form t refl (subst (λ l. IsTrue (has l t)) (sym same) i)
change_sets (Set o v aim) k t e i = absurd cc

-- the size of a circle is its radius twice
form_round : (f : Form) (m n : ℕ) → kind_of f ≡ Circle
    → value_as (form_value f) attr.Size ≡ Some (Size m n)
    → m ≡ n
form_round (form.Circle radius) m n k e = cc
form_round f m n k e = absurd cc

set_round : (v : Value) (m n : ℕ) → IsTrue (suits Circle v)
    → value_as v attr.Size ≡ Some (Size m n) → m ≡ n
set_round (Size j k) m n s e = let same = (Decides-eqb j k).0 s in cc
set_round v m n s e = absurd cc

-- a creation aims at none
no_aim : (c : Change) → IsSome (made_kind c) → change_aim c ≡ []
no_aim (Create s) i = refl
no_aim (Set o v aim) i = absurd cc

module _ (h : List Op) (valid : IsValid h) (o : ObjectId) where
  -- an operation on an object is its creation, or comes after that
  maker_or_after : (maker a : Op) → Contains h maker → maker.id ≡ o.0 → Contains h a
      → (change : Change) → a.change ≡ change → changed_object a.id change ≡ o
      → (a.id ≡ o.0) ⊎ Precedes maker a
  maker_or_after maker a x named y (Create start) c e = inl (ap (λ (p : ObjectId). p.0) e)
  maker_or_after maker a x named y (Set p v aim) c e =
      let known = (subst (IsSuited h a) c (valid.suited a y)).known in
      let made = known.made in
      let one = same_op h valid made.op maker made.contained x
      (made.id ∙ (ap (λ (q : ObjectId). q.0) e ∙ sym named)) in
      inr (subst (λ (b : Op). Precedes b a) one known.before)

  -- a member of a version concerns its object
  pub member_object : (g : List OpId) → IsVersion h o g → (a : Op) → IsMember h g a
      → object_of a ≡ o
  member_object g version a m =
      let on = version.members a.id m.grouped in
      subst (λ (b : Op). object_of b ≡ o) (same_op h valid on.op a on.contained m.contained on.id)
      on.such

  -- the creation conflicts with no operation on its object, so it is a member of each version
  pub maker_grouped : (g : List OpId) (version : IsVersion h o g) → IsMember h g version.created.op
  maker_grouped g version = elim (grouped_cases g version.created.op.id) [
    | inl k ↦ record { contained = version.created.contained; grouped = k }
    | inr n ↦
        let made = version.created in
        let clash = version.largest made.op made.contained made.such n in
        let member = clash.member in
        let first : clash.conflict.first ≡ made.op = elim clash.conflict.brings_first [
          | inl e ↦ e
          | inr m ↦ absurd (not_Contains-nil clash.conflict.first.id
              (subst (λ is. Contains is clash.conflict.first.id)
              (no_aim made.op.change version.makes) m.aimed))
        ] in
        let second = clash.conflict.second in
        let there : Contains h second = elim clash.conflict.brings_second [
          | inl e ↦ subst (Contains h) (sym e) clash.is_member.contained
          | inr m ↦ m.contained
        ] in
        let direct : DirectConflict made.op second = subst (λ x. DirectConflict x second) first
        clash.conflict.direct in
        absurd (elim (maker_or_after made.op second made.contained made.id there second.change refl
        (sym direct.one_object ∙ made.such)) [
          | inl e ↦ direct.concurrent.different (same_op h valid made.op second made.contained there
              (made.id ∙ sym e))
          | inr before ↦ direct.concurrent.not_before before
        ])
  ]

  -- an object has one kind
  pub one_kind : (k l : Kind) → IsOfKind h o k → IsOfKind h o l → k ≡ l
  one_kind k l x y =
      let same = same_op h valid x.op y.op x.contained y.contained (x.id ∙ sym y.id) in
      let e : Some k ≡ Some l = sym x.such ∙ (ap (λ (b : Op). made_kind b.change) same ∙ y.such) in
      cc

  pub has_attribute : (k : Kind) (t : Attr) → IsOfKind h o k → IsTrue (has k t) → HasAttribute h o t
  has_attribute k t x i l y = subst (λ m. IsTrue (has m t)) (one_kind k l x y) i

  -- the object of a version is of some kind
  pub version_kind : (g : List OpId) (version : IsVersion h o g)
      → (k : Kind) × IsOfKind h o k × (made_kind version.created.op.change ≡ Some k)
  version_kind g version =
      let made = version.created in
      let kind = some_value (made_kind made.op.change) version.makes in (
        kind.0,
        record { op = made.op; contained = made.contained; id = made.id; such = kind.1 },
        kind.1,
      )

  -- the operation under the object's id makes it
  pub not_set : (g : List OpId) → IsVersion h o g
      → (a : Op) (p : ObjectId) (v : Value) (aim : List OpId) → Contains h a → a.id ≡ o.0
      → a.change ≡ Set p v aim → ⊥
  not_set g version a p v aim x named e =
      let made = version.created in
      let some = subst (λ (b : Op). IsSome (made_kind b.change))
      (same_op h valid made.op a made.contained x (made.id ∙ sym named)) version.makes in
      let none = rw e at some in absurd cc

  pub kind_by_form : (a : Op) (s : Start) (f : Form) → Contains h a → a.id ≡ o.0
      → a.change ≡ Create s → s.form ≡ f → IsOfKind h o (kind_of f)
  kind_by_form a s f x named e is = record {
    op = a;
    contained = x;
    id = named;
    such = ap made_kind e ∙ ap (λ k. Some (kind_of k)) is;
  }

  -- the creation gives each attribute of the object a value
  pub maker_sets : (g : List OpId) (version : IsVersion h o g) (t : Attr) → HasAttribute h o t
      → IsSome (value_given version.created.op t)
  maker_sets g version t has_it =
      let kind = version_kind g version in
      change_sets version.created.op.change kind.0 t kind.2 (has_it kind.0 kind.1)

  same_maker : (g : List OpId) (version : IsVersion h o g) (a : Op) → Contains h a → a.id ≡ o.0
      → version.created.op ≡ a
  same_maker g version a x named = same_op h valid version.created.op a version.created.contained x
      (version.created.id ∙ sym named)

  -- the same of the operation under the object's id
  pub maker_member : (g : List OpId) → IsVersion h o g → (a : Op) → Contains h a → a.id ≡ o.0
      → IsMember h g a
  maker_member g version a x named = subst (IsMember h g) (same_maker g version a x named)
      (maker_grouped g version)

  pub maker_gives : (g : List OpId) → IsVersion h o g → (a : Op) (t : Attr) → Contains h a
      → a.id ≡ o.0 → HasAttribute h o t → IsSome (value_given a t)
  maker_gives g version a t x named has_it = subst (λ (b : Op). IsSome (value_given b t))
      (same_maker g version a x named) (maker_sets g version t has_it)

  -- the size of a circle is given as its radius twice
  round_change : (a : Op) (m n : ℕ) → IsOfKind h o Circle → Contains h a → (change : Change)
      → a.change ≡ change → changed_object a.id change ≡ o
      → change_value change attr.Size ≡ Some (Size m n) → m ≡ n
  round_change a m n kind x (Create s) c e gives =
      let one = same_op h valid kind.op a kind.contained x
      (kind.id ∙ sym (ap (λ (p : ObjectId). p.0) e)) in
      let made : Some (kind_of s.form) ≡ Some Circle = sym (ap made_kind c)
      ∙ (sym (ap (λ (b : Op). made_kind b.change) one) ∙ kind.such) in
      form_round s.form m n (cc) gives
  round_change a m n kind x (Set p v aim) c e gives =
      let suited = subst (IsSuited h a) c (valid.suited a x) in
      let made = suited.known.made in
      let same = one_kind suited.kind Circle
      (record {
        op = made.op;
        contained = made.contained;
        id = made.id ∙ ap (λ (q : ObjectId). q.0) e;
        such = made.such;
      }) kind in
      set_round v m n (subst (λ k. IsTrue (suits k v)) same suited.suited) gives

  pub round_size : (a : Op) (m n : ℕ) → IsOfKind h o Circle → Contains h a → object_of a ≡ o
      → value_given a attr.Size ≡ Some (Size m n) → m ≡ n
  round_size a m n kind x e gives = round_change a m n kind x a.change refl e gives
