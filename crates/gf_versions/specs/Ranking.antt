-- The visible versions of a history in their order (this project's choice).
use Rattle.std.specs.Prelude.{◌≡◌, Bool, pos, List, AllPairs, Contains, ◌↔◌, find}
use Rattle.std.specs.Prelude.{option_map, unwrap_or}
use Rattle.gf_plane.specs.declared.point.Point.{Point}
use Rattle.gf_plane.specs.declared.colour.Rgb.{Rgb}
use Rattle.gf_shape.specs.declared.any_shape.AnyShape.{AnyShape}
use Rattle.gf_shape.specs.declared.any_shape.AnyShape.TheVariants as any
use Rattle.gf_shape.specs.ShapeMoves.{any_moved}
use Rattle.gf_plane.specs.White.{white}
use Rattle.gf_ops.specs.declared.op.Op.{Op}
use Rattle.gf_ops.specs.declared.change.Form.{Form}
use Rattle.gf_ops.specs.declared.change.Form.TheVariants.{Rect, Circle, Ellipse, Polygon}
use Rattle.gf_groups.specs.declared.group.Group.{Group}
use Rattle.gf_versions.specs.declared.key.Version.{Version}
use Rattle.gf_versions.specs.declared.placed.Placed.{Placed}
use Rattle.gf_versions.specs.Above.{IsAbove}
use Rattle.gf_versions.specs.Visible.{IsVisible}

-- the origin, from which no form is moved
abbrev pub origin : Point
origin = record { x = pos 0; y = pos 0 }

-- the shape of a form, seen from its place
abbrev pub shape_of : Form → AnyShape
shape_of (Rect width height) = any.Rect (record { low = origin; width = width; height = height })
shape_of (Circle radius) = any.Circle (record { centre = origin; radius = radius })
shape_of (Ellipse rx ry) = any.Ellipse (record { centre = origin; rx = rx; ry = ry })
shape_of (Polygon ps) = any.Polygon ps

-- the form f moved to its place
abbrev pub form_at : Form → Point → AnyShape
form_at f place = any_moved (shape_of f) place

-- a version at its place: its key, its form moved to its place, its colour
abbrev pub placed_version : Version → Placed AnyShape
placed_version v = record { key = v.key; shape = form_at v.form v.place; colour = v.colour }

-- i is a visible version of h at its place
pub record IsPlaced (h : List Op) (i : Placed AnyShape) : Type 0 where
  pub version : Version
  pub visible : IsVisible h version
  pub placed : i ≡ placed_version version

-- the items are the visible versions of h at their places, each above those after it
pub record AreRanked (h : List Op) (items : List (Placed AnyShape)) : Type 0 where
  pub exactly : (i : Placed AnyShape) → IsPlaced h i ↔ Contains items i
  pub falling : AllPairs (λ i j. IsAbove i.key j.key) items

-- the group of operations of the version v
abbrev pub group_of : Version → Group
group_of v = record { object = v.key.object; ops = v.key.ops }

-- i is a visible version of h at its place, with one of these groups
pub record IsPlacedOf (h : List Op) (groups : List Group) (i : Placed AnyShape) : Type 0 where
  pub version : Version
  pub visible : IsVisible h version
  pub grouped : Contains groups (group_of version)
  pub placed : i ≡ placed_version version

-- the items are the visible versions of h with these groups at their places, each above those after
-- it
pub record AreRankedOf (h : List Op) (groups : List Group)
    (items : List (Placed AnyShape)) : Type 0 where
  pub exactly : (i : Placed AnyShape) → IsPlacedOf h groups i ↔ Contains items i
  pub falling : AllPairs (λ i j. IsAbove i.key j.key) items

-- the colour of the first item whose shape holds p, or white
abbrev pub first_colour : {S : Type 0} → (S → Point → Bool) → List (Placed S) → Point
    → Rgb
first_colour {S} holds items p =
    unwrap_or (option_map (λ (i : Placed S). i.colour)
    (find (λ (i : Placed S). holds i.shape p) items)) white
