-- What operations set: operations that conflict directly both set one attribute, and a creation
-- conflicts directly with none.
use Rattle.std.proofs.Common.{◌≡◌, ◌≢◌, true, List, Some, sym, ap, subst}
use Rattle.std.proofs.Common.{◌∙◌, inl, inr}
use Rattle.std.specs.Prelude.{◌⊎◌, Contains}
use Rattle.std.proofs.lemmas.Bool.{cases_Bool}
use Rattle.gf_ops.specs.declared.op.Op.{Op}
use Rattle.gf_ops.specs.declared.op.ObjectId.{ObjectId}
use Rattle.gf_ops.specs.declared.change.Start.{Start}
use Rattle.gf_ops.specs.declared.change.Change.{Change}
use Rattle.gf_ops.specs.declared.change.Change.TheVariants.{Create, Set}
use Rattle.gf_ops.specs.declared.change.Value.{Value}
use Rattle.gf_ops.specs.AimWalk.{index_of, Sets}
use Rattle.gf_ops.specs.Attribute.{attribute_index, attribute_of, change_value, value_as}
use Rattle.gf_ops.specs.Attribute.{changed_object, object_of}
use Rattle.gf_ops.specs.ConflictTests.{value_eq, sets_another}
use Rattle.gf_ops.specs.DirectConflict.{SetApart, DirectConflict}
use Rattle.gf_ops.specs.KnownObject.{IsSuited}
use Rattle.gf_ops.specs.OperationOrder.{Precedes}
use Rattle.gf_ops.specs.ValidHistory.{IsValid}
use Rattle.gf_ops.proofs.AttributeLemmas.{one_attribute}
use Rattle.gf_ops.proofs.DirectConflictLemmas.{value_as-given, value_as-own, another_told}
use Rattle.gf_ops.proofs.DirectConflictLemmas.{another_from, direct-sym}
use Rattle.gf_ops.proofs.SameLemmas.{value_eq-true, value_eq-same}
use Rattle.gf_ops.proofs.ValidityLemmas.{same_op}

pub value_cases : (v w : Value) → (v ≡ w) ⊎ (v ≢ w)
value_cases v w = elim (cases_Bool (value_eq v w)) [
  | inl t ↦ inl (value_eq-true v w t)
  | inr f ↦ inr (λ e. let s : value_eq v w ≡ true = subst (λ u. value_eq v u ≡ true) e
      (value_eq-same v) in absurd cc)
]

-- ---- what operations set

pub sets_one : (x : Op) (v w : Value) → Sets x v → Sets x w → v ≡ w
sets_one x v w s r = let e : Set s.object v s.aim ≡ Set r.object w r.aim = sym s.is ∙ r.is in cc

pub sets_apart : (x y : Op) (v w : Value) → Sets x v → Sets y w → index_of v ≡ index_of w → v ≢ w
    → SetApart x.change y.change
sets_apart x y v w s r e n = record {
  attribute = attribute_of w;
  first = v;
  second = w;
  first_given = ap (λ c. change_value c (attribute_of w)) s.is
      ∙ (ap (value_as v) (sym (one_attribute (attribute_of v) (attribute_of w) e))
      ∙ value_as-own v);
  second_given = ap (λ c. change_value c (attribute_of w)) r.is ∙ value_as-own w;
  differ = n;
}

-- an operation that sets v gives the attribute of w another value, where it does
pub other_told : (x : Op) (v w : Value) → Sets x v → sets_another x.change w ≡ true → v ≢ w
other_told x v w s t e =
    let u : sets_another (Set s.object v s.aim) w ≡ true = subst (λ c. sets_another c w ≡ true) s.is
    t in
    let told = another_told (value_as v (attribute_of w)) w u in
    let given = value_as-given v told.0 (attribute_of w) told.1 in
    told.2 (sym given.0 ∙ e)

pub other_from : (x : Op) (v w : Value) → Sets x v → index_of v ≡ index_of w → v ≢ w
    → sets_another x.change w ≡ true
other_from x v w s e n =
    let given : value_as v (attribute_of w)
    ≡ Some v = ap (value_as v) (sym (one_attribute (attribute_of v) (attribute_of w) e))
    ∙ value_as-own v in
    subst (λ c. sets_another c w ≡ true) (sym s.is) (rw given (another_from v w n))

-- x and y set one attribute to different values
pub record SetBoth (x y : Op) : Type 0 where
  pub first : Value
  pub second : Value
  pub sets_first : Sets x first
  pub sets_second : Sets y second
  pub index : index_of first ≡ index_of second
  pub differ : first ≢ second

module _ (h : List Op) (valid : IsValid h) where
  -- a creation conflicts directly with none
  made_alone : (x y : Op) → Contains h x → Contains h y → (s : Start) → x.change ≡ Create s
      → (c : Change) → y.change ≡ c → ¬ (DirectConflict x y)
  made_alone x y i j s e (Create r) f d =
      let own : object_of x ≡ changed_object x.id (Create s) = ap (changed_object x.id) e in
      let other : object_of y ≡ changed_object y.id (Create r) = ap (changed_object y.id) f in
      let id : x.id ≡ y.id = ap (λ (o : ObjectId). o.0) (sym own ∙ (d.one_object ∙ other)) in
      d.concurrent.different (same_op h valid x y i j id)
  made_alone x y i j s e (Set o v aim) f d =
      let own : object_of x ≡ changed_object x.id (Create s) = ap (changed_object x.id) e in
      let other : object_of y ≡ o = ap (changed_object y.id) f in
      let suited : IsSuited h y (Set o v aim) = subst (IsSuited h y) f (valid.suited y j) in
      let known = suited.known in
      let id : o.0 ≡ x.id = ap (λ (p : ObjectId). p.0) (sym other ∙ (sym d.one_object ∙ own)) in
      let same = same_op h valid known.made.op x known.made.contained i (known.made.id ∙ id) in
      d.concurrent.not_before (subst (λ z. Precedes z y) same known.before)

  pub both_set : (x y : Op) → Contains h x → Contains h y → (b c : Change) → x.change ≡ b
      → y.change ≡ c → DirectConflict x y → SetBoth x y
  both_set x y i j (Create s) c e f d = absurd (made_alone x y i j s e c f d)
  both_set x y i j (Set o v aim) (Create s) e f d = absurd (made_alone y x j i s f (Set o v aim) e
      (direct-sym x y d))
  both_set x y i j (Set o v aim) (Set p w others) e f d =
      let a = d.apart in
      let first = value_as-given v a.first a.attribute
      (ap (λ c. change_value c a.attribute) (sym e) ∙ a.first_given) in
      let second = value_as-given w a.second a.attribute
      (ap (λ c. change_value c a.attribute) (sym f) ∙ a.second_given) in
      record {
        first = v;
        second = w;
        sets_first = record { object = o; aim = aim; is = e };
        sets_second = record { object = p; aim = others; is = f };
        index = ap attribute_index (first.1 ∙ sym second.1);
        differ = λ g. a.differ (sym first.0 ∙ (g ∙ second.0));
      }
