-- The tests of direct conflicts tell these, and they are symmetric.
use Rattle.std.proofs.Common.{◌≡◌, ◌≢◌, ◌||◌, Bool, true, List, Some, None, Option, refl, sym, ap}
use Rattle.std.proofs.Common.{subst, ◌∙◌, inl, inr}
use Rattle.std.proofs.lemmas.Bool.{cases_Bool, or_cases, or_left, or_right}
use Rattle.gf_ops.specs.declared.op.Op.{Op}
use Rattle.gf_ops.specs.declared.op.OpId.{OpId}
use Rattle.gf_ops.specs.declared.op.ObjectId.{ObjectId}
use Rattle.gf_ops.specs.declared.change.Attr.{Attr}
use Rattle.gf_ops.specs.declared.change.Form.{Form}
use Rattle.gf_ops.specs.declared.change.Form.TheVariants.{Rect, Polygon, Circle, Ellipse}
use Rattle.gf_ops.specs.declared.change.Start.{Start}
use Rattle.gf_ops.specs.declared.change.Change.{Change}
use Rattle.gf_ops.specs.declared.change.Change.TheVariants.{Create, Set}
use Rattle.gf_ops.specs.declared.change.Value.{Value}
use Rattle.gf_ops.specs.declared.change.Value.TheVariants.{Place, Points, Size, Colour, Layer}
use Rattle.gf_ops.specs.declared.change.Value.TheVariants.{Shown}
use Rattle.gf_ops.specs.declared.change.Attr.TheVariants as attr
use Rattle.gf_ops.specs.Attribute.{attribute_of, change_value, start_value, value_as, form_value}
use Rattle.gf_ops.specs.Attribute.{object_of}
use Rattle.gf_ops.specs.DirectConflict.{SetApart, DirectConflict}
use Rattle.gf_ops.specs.ConflictTests.{value_eq, is_another, sets_another, begins_apart, are_apart}
use Rattle.gf_ops.specs.OperationOrder.{IsConcurrent, Precedes}
use Rattle.gf_ops.proofs.SameLemmas.{value_eq-same, value_eq-true}

-- ---- values

-- what a Set gives to an attribute is its value, of that attribute
pub value_as-given : (v w : Value) (t : Attr) → value_as v t ≡ Some w
    → (v ≡ w) × (attribute_of v ≡ t)
value_as-given (Place p) w attr.Place e = (cc, refl)
value_as-given (Points ps) w attr.Points e = (cc, refl)
value_as-given (Size j k) w attr.Size e = (cc, refl)
value_as-given (Colour c) w attr.Colour e = (cc, refl)
value_as-given (Layer n) w attr.Layer e = (cc, refl)
value_as-given (Shown b) w attr.Shown e = (cc, refl)
value_as-given v w t e = absurd cc

pub value_as-own : (v : Value) → value_as v (attribute_of v) ≡ Some v
value_as-own (Place p) = refl
value_as-own (Points ps) = refl
value_as-own (Size j k) = refl
value_as-own (Colour c) = refl
value_as-own (Layer n) = refl
value_as-own (Shown b) = refl

-- ---- changes

-- another value is given
pub another_told : (g : Option Value) (w : Value) → is_another g w ≡ true
    → (v : Value) × (g ≡ Some v) × (v ≢ w)
another_told None w t = absurd cc
another_told (Some v) w t = (v, refl, λ e. let s = value_eq-same v in absurd cc)

pub another_from : (v w : Value) → v ≢ w → is_another (Some v) w ≡ true
another_from v w n = elim (cases_Bool (value_eq v w)) [
  | inl t ↦ absurd (n (value_eq-true v w t))
  | inr f ↦ rw f refl
]

-- what is set apart is so from both sides
apart-sym : (c d : Change) → SetApart c d → SetApart d c
apart-sym c d s = record {
  attribute = s.attribute;
  first = s.second;
  second = s.first;
  first_given = s.second_given;
  second_given = s.first_given;
  differ = λ e. s.differ (sym e);
}

-- a change that gives another value than a Set
another_apart : (c : Change) (o : ObjectId) (w : Value) (aim : List OpId) → sets_another c w ≡ true
    → SetApart c (Set o w aim)
another_apart c o w aim t =
    let (v, given, differ) = another_told (change_value c (attribute_of w)) w t in
    record {
      attribute = attribute_of w;
      first = v;
      second = w;
      first_given = given;
      second_given = value_as-own w;
      differ = differ;
    }

apart_another : (c : Change) (o : ObjectId) (w : Value) (aim : List OpId) → SetApart c (Set o w aim)
    → sets_another c w ≡ true
apart_another c o w aim s =
    let (same, at) = value_as-given w s.second s.attribute s.second_given in
    let given : change_value c (attribute_of w) ≡ Some s.first = ap (change_value c)
    at ∙ s.first_given in
    rw given (another_from s.first w (λ e. s.differ (e ∙ same)))

-- ---- what two objects begin with

-- an object begins with the value of its form
form_given : (s : Start) → start_value s (attribute_of (form_value s.form)) ≡ Some
    (form_value s.form)
form_given s = given s.form refl
  where
    given : (f : Form) → s.form ≡ f → start_value s (attribute_of (form_value f)) ≡ Some
        (form_value f)
    given (Rect w h) e = rw e refl
    given (Polygon ps) e = rw e refl
    given (Circle r) e = rw e refl
    given (Ellipse m n) e = rw e refl

size_is : (f : Form) (w : Value) → value_as (form_value f) attr.Size ≡ Some w
    → (form_value f ≡ w) × (attribute_of w ≡ attr.Size)
size_is (Rect v h) w e = let same : Size v h ≡ w = cc in (same, ap attribute_of (sym same))
size_is (Circle r) w e = let same : Size r r ≡ w = cc in (same, ap attribute_of (sym same))
size_is (Ellipse m n) w e = let same : Size m n ≡ w = cc in (same, ap attribute_of (sym same))
size_is (Polygon ps) w e = absurd cc

points_are : (f : Form) (w : Value) → value_as (form_value f) attr.Points ≡ Some w
    → (form_value f ≡ w) × (attribute_of w ≡ attr.Points)
points_are (Polygon ps) w e = let same : Points ps ≡ w = cc in (same, ap attribute_of (sym same))
points_are f w e = absurd cc

begins_apart_told : (s t : Start) → begins_apart s t ≡ true → SetApart (Create s) (Create t)
begins_apart_told s t e = elim (or_cases (place || colour || layer || shown)
    (begins (form_value t.form)) e) [
      | inl g ↦ elim (or_cases (place || colour || layer) shown g) [
        | inl h ↦ elim (or_cases (place || colour) layer h) [
          | inl k ↦ elim (or_cases place colour k) [
            | inl x ↦ from (Place t.place) refl x
            | inr x ↦ from (Colour t.colour) refl x
          ]
          | inr x ↦ from (Layer t.layer) refl x
        ]
        | inr x ↦ from (Shown t.shown) refl x
      ]
      | inr x ↦ from (form_value t.form) (form_given t) x
    ]
  where
    begins : Value → Bool
    begins w = sets_another (Create s) w

    place : Bool
    place = begins (Place t.place)

    colour : Bool
    colour = begins (Colour t.colour)

    layer : Bool
    layer = begins (Layer t.layer)

    shown : Bool
    shown = begins (Shown t.shown)

    from : (w : Value) → start_value t (attribute_of w) ≡ Some w → sets_another (Create s) w ≡ true
        → SetApart (Create s) (Create t)
    from w given x =
        let (v, first, differ) = another_told (start_value s (attribute_of w)) w x in
        record {
          attribute = attribute_of w;
          first = v;
          second = w;
          first_given = first;
          second_given = given;
          differ = differ;
        }

begins_apart_from : (s t : Start) → SetApart (Create s) (Create t) → begins_apart s t ≡ true
begins_apart_from s t x = by x.attribute refl
  where
    begins : Value → Bool
    begins w = sets_another (Create s) w

    place : Bool
    place = begins (Place t.place)

    colour : Bool
    colour = begins (Colour t.colour)

    layer : Bool
    layer = begins (Layer t.layer)

    shown : Bool
    shown = begins (Shown t.shown)

    -- the second value is w, so the first one is another
    from : (w : Value) → x.second ≡ w → x.attribute ≡ attribute_of w → begins w ≡ true
    from w same at =
        let first : start_value s (attribute_of w) ≡ Some x.first = ap (start_value s) (sym at)
        ∙ x.first_given in
        rw first (another_from x.first w (λ e. x.differ (e ∙ sym same)))

    told : (w : Value) → Some w ≡ Some x.second → x.second ≡ w
    told w e = cc

    form : (w : Value) → form_value t.form ≡ w → x.second ≡ w → x.attribute ≡ attribute_of w
        → begins_apart s t ≡ true
    form w f same at = or_right (place || colour || layer || shown) (begins (form_value t.form))
        (subst (λ u. begins u ≡ true) (sym f) (from w same at))

    by : (k : Attr) → x.attribute ≡ k → begins_apart s t ≡ true
    by attr.Place e =
        let one : Some (Place t.place) ≡ Some x.second = ap (start_value t) (sym e)
        ∙ x.second_given in
        or_left _ _ (or_left _ _
        (or_left _ _ (or_left place colour (from (Place t.place) (told (Place t.place) one) e))))
    by attr.Colour e =
        let one : Some (Colour t.colour) ≡ Some x.second = ap (start_value t) (sym e)
        ∙ x.second_given in
        or_left _ _ (or_left _ _
        (or_left _ _ (or_right place colour (from (Colour t.colour) (told (Colour t.colour) one)
        e))))
    by attr.Layer e =
        let one : Some (Layer t.layer) ≡ Some x.second = ap (start_value t) (sym e)
        ∙ x.second_given in
        or_left _ _ (or_left _ _
        (or_right (place || colour) layer (from (Layer t.layer) (told (Layer t.layer) one) e)))
    by attr.Shown e =
        let one : Some (Shown t.shown) ≡ Some x.second = ap (start_value t) (sym e)
        ∙ x.second_given in
        or_left _ _ (or_right (place || colour || layer) shown
        (from (Shown t.shown) (told (Shown t.shown) one) e))
    by attr.Size e =
        let w = size_is t.form x.second (ap (start_value t) (sym e) ∙ x.second_given) in
        form x.second w.0 refl (e ∙ sym w.1)
    by attr.Points e =
        let w = points_are t.form x.second (ap (start_value t) (sym e) ∙ x.second_given) in
        form x.second w.0 refl (e ∙ sym w.1)

-- ---- changes of two operations

apart_told : (c d : Change) → are_apart c d ≡ true → SetApart c d
apart_told c (Set o w aim) t = another_apart c o w aim t
apart_told (Set o v aim) (Create start) t = apart-sym (Create start) (Set o v aim)
    (another_apart (Create start) o v aim t)
apart_told (Create s) (Create r) t = begins_apart_told s r t

pub apart_from : (c d : Change) → SetApart c d → are_apart c d ≡ true
apart_from c (Set o w aim) s = apart_another c o w aim s
apart_from (Set o v aim) (Create start) s = apart_another (Create start) o v aim
    (apart-sym (Set o v aim) (Create start) s)
apart_from (Create s) (Create r) a = begins_apart_from s r a

-- ---- operations

-- an operation gives an attribute one value
apart_differs : (a b : Op) → SetApart a.change b.change → a ≢ b
apart_differs a b s e =
    let one : Some s.first ≡ Some s.second = sym s.first_given
    ∙ (ap (λ (x : Op). change_value x.change s.attribute) e ∙ s.second_given) in
    s.differ cc

pub direct_told : (a b : Op) → (¬ (Precedes a b)) × (¬ (Precedes b a)) → object_of a ≡ object_of b
    → are_apart a.change b.change ≡ true → DirectConflict a b
direct_told a b unordered object t =
    let apart = apart_told a.change b.change t in
    record {
      concurrent = record {
        different = apart_differs a b apart;
        not_before = unordered.0;
        not_after = unordered.1;
      };
      one_object = object;
      apart = apart;
    }

pub direct_from : (a b : Op) → DirectConflict a b → are_apart a.change b.change ≡ true
direct_from a b c = apart_from a.change b.change c.apart

-- concurrency is symmetric
concurrent-sym : (a b : Op) → IsConcurrent a b → IsConcurrent b a
concurrent-sym a b c = record {
  different = λ e. c.different (sym e);
  not_before = c.not_after;
  not_after = c.not_before;
}

-- direct conflict is symmetric
pub direct-sym : (a b : Op) → DirectConflict a b → DirectConflict b a
direct-sym a b c = record {
  concurrent = concurrent-sym a b c.concurrent;
  one_object = sym c.one_object;
  apart = apart-sym a.change b.change c.apart;
}
