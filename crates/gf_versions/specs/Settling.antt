-- How the values of a version are found. No public clause cites this module.
use Rattle.std.specs.Prelude.{Bool, true, false, not, List, IsSome, IsTrue}
use Rattle.gf_ops.specs.declared.op.Op.{Op}
use Rattle.gf_ops.specs.declared.op.OpId.{OpId}
use Rattle.gf_ops.specs.declared.op.ObjectId.{ObjectId}
use Rattle.gf_ops.specs.declared.change.Attr.{Attr}
use Rattle.gf_ops.specs.declared.change.Attr.TheVariants.{Place, Points, Size, Colour, Layer, Shown}
use Rattle.gf_ops.specs.declared.change.Form.{Form}
use Rattle.gf_ops.specs.Attribute.{Kind, Box, Circle, Ellipse, Polygon, form_attribute, form_value}
use Rattle.gf_ops.specs.Attribute.{value_given, kind_of}
use Rattle.gf_ops.specs.OperationOrder.{Precedes}
use Rattle.gf_ops.specs.SettledValue.{IsSettled}
use Rattle.gf_ops.specs.Version.{IsMember}
use Rattle.gf_ops.specs.HasOperation.{IsOfKind}
use Rattle.gf_groups.specs.declared.group.Group.{Group}

-- k is the kind of polygons
abbrev pub are_polygons : Kind → Bool
are_polygons Polygon = true
are_polygons Box = false
are_polygons Circle = false
are_polygons Ellipse = false

-- objects of the kind k have the attribute t
abbrev pub has : Kind → Attr → Bool
has k Points = are_polygons k
has k Size = not (are_polygons k)
has k Place = true
has k Colour = true
has k Layer = true
has k Shown = true

-- the object o of h, of whatever kind, has the attribute t
abbrev pub HasAttribute : List Op → ObjectId → Attr → Type 0
HasAttribute h o t = (k : Kind) → IsOfKind h o k → IsTrue (has k t)

-- a sets t in the group g, and no setter of t under these ids comes after it
pub record IsLastOf (h : List Op) (g ids : List OpId) (t : Attr) (a : Op) : Type 0 where
  pub member : IsMember h g a
  pub sets : IsSome (value_given a t)
  pub last : (b : Op) → IsMember h ids b → IsSome (value_given b t) → ¬ (Precedes a b)

-- a is a last operation of the group g that sets t
abbrev pub IsLastSetter : List Op → List OpId → Attr → Op → Type 0
IsLastSetter h g t a = IsLastOf h g g t a

-- f is the form that the object of the group g has in that version
pub record IsFormOf (h : List Op) (g : Group) (f : Form) : Type 0 where
  pub kind : IsOfKind h g.object (kind_of f)
  pub settled : IsSettled h g.ops (form_attribute f) (form_value f)
