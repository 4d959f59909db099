-- The order of fingerprints is total, and only one fingerprint ties with another: itself. What one
-- determines of a value.
use Rattle.std.proofs.Common.{◌≡◌, ◌≢◌, ℕ, true, false, inl, inr, refl, sym, ap, ◌∙◌, pos}
use Rattle.std.specs.Prelude.{Option, Some, None, slice_get}
use Rattle.std.specs.BTreeMap.{is_at}
use Rattle.std.specs.Cmp.{IsTotalOrder, Equal-is}
use Rattle.std.specs.Ordering.{int_cmp, is_eq, ordering_then}
use Rattle.std.specs.FinMap.{IsAntisymmetric, int_cmp-IsAntisymmetric}
use Rattle.std.specs.declared.cmp.Ordering.{Ordering}
use Rattle.std.specs.declared.cmp.Ordering.TheVariants.{Less, Equal, Greater}
use Rattle.std.proofs.lemmas.Bool.{cases_Bool}
use Rattle.std.proofs.lemmas.Cmp.{int_cmp_total, on_total, then_total, tied_itself}
use Rattle.std.proofs.lemmas.Map.Lookups.{CmpEqualImpliesEq}
use Rattle.gf_plane.specs.declared.point.Point.{Point}
use Rattle.gf_ops.specs.declared.change.Attr.{Attr}
use Rattle.gf_ops.specs.declared.change.Attr.TheVariants as attr
use Rattle.gf_ops.specs.declared.change.Value.{Value}
use Rattle.gf_ops.specs.declared.change.Value.TheVariants.{Place, Points, Size, Colour, Layer}
use Rattle.gf_ops.specs.declared.change.Value.TheVariants.{Shown}
use Rattle.gf_ops.specs.contracts.change.AttrOrd.TheImpl.Laws.{total-law}
use Rattle.gf_ops.specs.Attribute.{attribute_of}
use Rattle.gf_classes.specs.declared.fingerprint.Fingerprint.{Fingerprint}
use Rattle.gf_classes.specs.Fingerprints.{point_fingerprint, fingerprint_of, fingerprint_cmp}
use Rattle.gf_classes.specs.Fingerprints.{attribute_cmp, has_own_fingerprint, are_same}

-- ---- the order

attribute_cmp_total : IsTotalOrder attribute_cmp
attribute_cmp_total = total-law

attribute_cmp_exact : CmpEqualImpliesEq attribute_cmp
attribute_cmp_exact attr.Place attr.Place e = refl
attribute_cmp_exact attr.Points attr.Points e = refl
attribute_cmp_exact attr.Size attr.Size e = refl
attribute_cmp_exact attr.Colour attr.Colour e = refl
attribute_cmp_exact attr.Layer attr.Layer e = refl
attribute_cmp_exact attr.Shown attr.Shown e = refl
attribute_cmp_exact t u e = absurd cc

both_tied : (o p : Ordering) → ordering_then o p ≡ Equal → (o ≡ Equal) × (p ≡ Equal)
both_tied Less p e = absurd cc
both_tied Equal p e = (refl, e)
both_tied Greater p e = absurd cc

pub fingerprint_cmp_total : IsTotalOrder fingerprint_cmp
fingerprint_cmp_total = then_total (on_total (λ (p : Fingerprint). p.attribute) attribute_cmp_total)
    (then_total (on_total (λ (p : Fingerprint). p.first) int_cmp_total)
    (then_total (on_total (λ (p : Fingerprint). p.second) int_cmp_total)
    (on_total (λ (p : Fingerprint). p.third) int_cmp_total)))

fingerprint_cmp_exact : IsAntisymmetric fingerprint_cmp
fingerprint_cmp_exact p q e =
    let s = both_tied (int_cmp p.second q.second) (int_cmp p.third q.third) in
    let r = both_tied (int_cmp p.first q.first)
    (ordering_then (int_cmp p.second q.second) (int_cmp p.third q.third)) in
    let t = both_tied (attribute_cmp p.attribute q.attribute)
    (ordering_then (int_cmp p.first q.first)
    (ordering_then (int_cmp p.second q.second) (int_cmp p.third q.third))) e in
    let u = r t.1 in
    let v = s u.1 in
    let attribute = attribute_cmp_exact p.attribute q.attribute t.0 in
    let first = int_cmp-IsAntisymmetric p.first q.first u.0 in
    let second = int_cmp-IsAntisymmetric p.second q.second v.0 in
    let third = int_cmp-IsAntisymmetric p.third q.third v.1 in
    λ k. record { attribute = attribute k; first = first k; second = second k; third = third k }

pub at_itself : (p : Fingerprint) → is_at (fingerprint_cmp p) p ≡ true
at_itself p = ap is_eq (tied_itself fingerprint_cmp_total p)

pub at_same : (p q : Fingerprint) → is_at (fingerprint_cmp p) q ≡ true → p ≡ q
at_same p q t = fingerprint_cmp_exact p q ((Equal-is (fingerprint_cmp p q)).0 t)

pub same_told : (r s : Option Fingerprint) → are_same r s ≡ true → r ≡ s
same_told (Some p) (Some q) t = ap Some (fingerprint_cmp_exact p q
    ((Equal-is (fingerprint_cmp p q)).0 t))
same_told None None t = refl
same_told r s t = absurd cc

-- ---- what it determines

pos_one : (m n : ℕ) → pos m ≡ pos n → m ≡ n
pos_one m n e = cc

point_attribute : (t : Attr) (r : Option Point) → (point_fingerprint t r).attribute ≡ t
point_attribute t (Some p) = refl
point_attribute t None = refl

own_attribute : (v : Value) → (fingerprint_of v).attribute ≡ attribute_of v
own_attribute (Points ps) = point_attribute attr.Points (slice_get ps 0)
own_attribute v = refl

-- a value with a fingerprint of its own is determined by it
pub determined_value : (v w : Value) → has_own_fingerprint v ≡ true
    → fingerprint_of w ≡ fingerprint_of v → w ≡ v
determined_value (Place p) (Place q) y e = λ i. Place (record { x = (e i).first; y = (e i).second })
determined_value (Size w h) (Size x k) y e =
    let a = pos_one x w (ap (λ (p : Fingerprint). p.first) e) in
    let b = pos_one k h (ap (λ (p : Fingerprint). p.second) e) in
    λ i. Size (a i) (b i)
determined_value (Colour c) (Colour d) y e =
    let r = pos_one d.r c.r (ap (λ (p : Fingerprint). p.first) e) in
    let g = pos_one d.g c.g (ap (λ (p : Fingerprint). p.second) e) in
    let b = pos_one d.b c.b (ap (λ (p : Fingerprint). p.third) e) in
    λ i. Colour (record { r = r i; g = g i; b = b i })
determined_value (Layer m) (Layer n) y e = ap Layer
    (pos_one n m (ap (λ (p : Fingerprint). p.first) e))
determined_value (Shown true) (Shown true) y e = refl
determined_value (Shown false) (Shown false) y e = refl
determined_value v w y e = let t = sym (own_attribute w)
    ∙ (ap (λ (p : Fingerprint). p.attribute) e ∙ own_attribute v) in
    let n = ap (λ (p : Fingerprint). p.first) e in absurd cc
