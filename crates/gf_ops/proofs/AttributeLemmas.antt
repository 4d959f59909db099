-- Attributes and their indices.
use Rattle.std.proofs.Common.{◌≡◌, ◌∙◌, ◌<◌, ℕ, zero, suc, refl, sym, ap, arith}
use Rattle.gf_ops.specs.declared.change.Attr.{Attr}
use Rattle.gf_ops.specs.declared.change.Attr.TheVariants.{Place, Points, Size, Colour, Layer, Shown}
use Rattle.gf_ops.specs.Attribute.{attribute_index}

pub attribute_index_below : (t : Attr) → attribute_index t < 6
attribute_index_below Place = omega arith
attribute_index_below Points = omega arith
attribute_index_below Size = omega arith
attribute_index_below Colour = omega arith
attribute_index_below Layer = omega arith
attribute_index_below Shown = omega arith

pub attribute_at : ℕ → Attr
attribute_at zero = Place
attribute_at (suc zero) = Points
attribute_at (suc (suc zero)) = Size
attribute_at (suc (suc (suc zero))) = Colour
attribute_at (suc (suc (suc (suc zero)))) = Layer
attribute_at (suc (suc (suc (suc (suc k))))) = Shown

attribute_at_index : (t : Attr) → attribute_at (attribute_index t) ≡ t
unfolding attribute_at
attribute_at_index Place = refl
attribute_at_index Points = refl
attribute_at_index Size = refl
attribute_at_index Colour = refl
attribute_at_index Layer = refl
attribute_at_index Shown = refl

pub one_attribute : (t u : Attr) → attribute_index t ≡ attribute_index u → t ≡ u
one_attribute t u e = sym (attribute_at_index t) ∙ (ap attribute_at e ∙ attribute_at_index u)

pub attribute_index_at : (r : ℕ) → r < 6 → attribute_index (attribute_at r) ≡ r
unfolding attribute_at
attribute_index_at zero l = refl
attribute_index_at (suc zero) l = refl
attribute_index_at (suc (suc zero)) l = refl
attribute_index_at (suc (suc (suc zero))) l = refl
attribute_index_at (suc (suc (suc (suc zero)))) l = refl
attribute_index_at (suc (suc (suc (suc (suc zero))))) l = refl
attribute_index_at (suc (suc (suc (suc (suc (suc k)))))) l = absurd (omega arith)
