-- The fingerprint of a value, which identifies most values: its attribute and three of its numbers.
-- No public clause cites this module.
use Rattle.std.specs.Prelude.{ℤ, pos, Bool, true, false, cond, Option, Some, None, slice_get}
use Rattle.std.specs.declared.cmp.Ordering.{Ordering}
use Rattle.std.specs.Ordering.{int_cmp, is_eq, ordering_then}
use Rattle.gf_plane.specs.declared.point.Point.{Point}
use Rattle.gf_ops.specs.declared.change.Attr.{Attr}
use Rattle.gf_ops.specs.declared.change.Attr.TheVariants as attr
use Rattle.gf_ops.specs.declared.change.Value.{Value}
use Rattle.gf_ops.specs.declared.change.Value.TheVariants as value
use Rattle.gf_ops.specs.contracts.change.AttrOrd.TheImpl as attributes
use Rattle.gf_classes.specs.declared.fingerprint.Fingerprint.{Fingerprint}

-- the fingerprint of the attribute t and three numbers
abbrev pub numbers_fingerprint : Attr → ℤ → ℤ → ℤ → Fingerprint
numbers_fingerprint t x y z = record { attribute = t; first = x; second = y; third = z }

-- the fingerprint of the attribute t and a point, if there is one
abbrev pub point_fingerprint : Attr → Option Point → Fingerprint
point_fingerprint t (Some p) = numbers_fingerprint t p.x p.y (pos 0)
point_fingerprint t None = numbers_fingerprint t (pos 0) (pos 0) (pos 0)

-- the fingerprint of a value, where a list of points has that of its first one
abbrev pub fingerprint_of : Value → Fingerprint
fingerprint_of (value.Place p) = point_fingerprint attr.Place (Some p)
fingerprint_of (value.Points ps) = point_fingerprint attr.Points (slice_get ps 0)
fingerprint_of (value.Size w h) = numbers_fingerprint attr.Size (pos w) (pos h) (pos 0)
fingerprint_of (value.Colour c) = numbers_fingerprint attr.Colour (pos c.r) (pos c.g) (pos c.b)
fingerprint_of (value.Layer n) = numbers_fingerprint attr.Layer (pos n) (pos 0) (pos 0)
fingerprint_of (value.Shown b) =
    numbers_fingerprint attr.Shown (cond b (pos 1) (pos 0)) (pos 0) (pos 0)

-- no other value has the fingerprint of this one
abbrev pub has_own_fingerprint : Value → Bool
has_own_fingerprint (value.Points ps) = false
has_own_fingerprint (value.Place p) = true
has_own_fingerprint (value.Size w h) = true
has_own_fingerprint (value.Colour c) = true
has_own_fingerprint (value.Layer n) = true
has_own_fingerprint (value.Shown b) = true

-- attributes are ordered as their declaration names them
abbrev pub attribute_cmp : Attr → Attr → Ordering
attribute_cmp = attributes.cmp-value.it

-- the order of fingerprints, by their attributes and then their numbers
abbrev pub fingerprint_cmp : Fingerprint → Fingerprint → Ordering
fingerprint_cmp p q = ordering_then (attribute_cmp p.attribute q.attribute)
    (ordering_then (int_cmp p.first q.first)
    (ordering_then (int_cmp p.second q.second) (int_cmp p.third q.third)))

-- both are one fingerprint, or both are none
abbrev pub are_same : Option Fingerprint → Option Fingerprint → Bool
are_same (Some p) (Some q) = is_eq (fingerprint_cmp p q)
are_same None None = true
are_same p q = false
