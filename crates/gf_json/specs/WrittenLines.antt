-- The line that is written for an operation (RFC 8259 by serde_json's compact text; the keys, in
-- rising byte order, are this project's choice).
use Rattle.std.specs.Prelude.{ℕ, List, [], ◌∷◌, codes}
use Rattle.gf_ops.specs.declared.op.Op.{Op}
use Rattle.gf_ops.specs.declared.op.OpId.{OpId}
use Rattle.gf_ops.specs.declared.op.ObjectId.{ObjectId}
use Rattle.gf_ops.specs.declared.change.Form.{Form}
use Rattle.gf_ops.specs.declared.change.Form.TheVariants.{Rect, Polygon, Circle, Ellipse}
use Rattle.gf_ops.specs.declared.change.Start.{Start}
use Rattle.gf_ops.specs.declared.change.Change.{Change}
use Rattle.gf_ops.specs.declared.change.Change.TheVariants.{Create, Set}
use Rattle.gf_ops.specs.declared.change.Value.{Value}
use Rattle.gf_ops.specs.declared.change.Value.TheVariants as value
use Rattle.gf_plane.specs.declared.point.Point.{Point}
use Rattle.serde_json.specs.Data.{Data, boolean, string, object, Members, no_members, member}
use Rattle.serde_json.specs.Written.{compact_text}
use Rattle.gf_json.specs.WrittenValues.{natural_data, name_data, ids_data, clock_data, point_data}
use Rattle.gf_json.specs.WrittenValues.{points_data, size_data, colour_data, value_data}

-- the word for the attribute that v is a value of
abbrev pub attribute_word : Value → List ℕ
attribute_word (value.Place p) = codes "place"
attribute_word (value.Points ps) = codes "points"
attribute_word (value.Size width height) = codes "size"
attribute_word (value.Colour c) = codes "colour"
attribute_word (value.Layer n) = codes "layer"
attribute_word (value.Shown b) = codes "shown"

-- the members of an object, in the order of the list
abbrev pub in_order : List (List ℕ × Data) → Members
in_order [] = no_members
in_order ((key, d) ∷ ms) = member key d (in_order ms)

-- a line that creates an object of the kind; `last` has the keys from "points" on
abbrev pub created : Data → Data → Start → List ℕ → List (List ℕ × Data) → Data
created id past s kind last = object (in_order (
    (codes "colour", colour_data s.colour)
    ∷ (codes "id", id)
    ∷ (codes "kind", string kind)
    ∷ (codes "layer", natural_data s.layer)
    ∷ (codes "op", string (codes "create"))
    ∷ (codes "past", past)
    ∷ (codes "place", point_data s.place)
    ∷ last))

-- the last members of a line that creates a box, a circle or an ellipse
abbrev pub with_size : Start → ℕ → ℕ → List (List ℕ × Data)
with_size s width height = (codes "shown", boolean s.shown) ∷ (
  codes "size",
  size_data width height,
) ∷ []

-- the last members of a line that creates a polygon
abbrev pub with_points : Start → List Point → List (List ℕ × Data)
with_points s ps = (codes "points", points_data ps) ∷ (codes "shown", boolean s.shown) ∷ []

-- the line that creates an object of the form f
abbrev pub creation_data : Data → Data → Start → Form → Data
creation_data id past s (Rect width height) =
    created id past s (codes "box") (with_size s width height)
creation_data id past s (Polygon ps) = created id past s (codes "polygon") (with_points s ps)
creation_data id past s (Circle radius) =
    created id past s (codes "circle") (with_size s radius radius)
creation_data id past s (Ellipse rx ry) = created id past s (codes "ellipse") (with_size s rx ry)

-- the members of a line that sets an attribute of the object o to v
abbrev pub setting_members : Data → Data → ObjectId → Value → List (List ℕ × Data)
setting_members id past o v =
    (codes "id", id)
    ∷ (codes "object", name_data o.0)
    ∷ (codes "op", string (codes "set"))
    ∷ (codes "past", past)
    ∷ (codes "set", string (attribute_word v))
    ∷ (codes "to", value_data v)
    ∷ []

-- the line that sets an attribute of o to v, aimed at these ids. Without an id it has no key of the
-- aim
abbrev pub setting_data : Data → Data → ObjectId → Value → List OpId → Data
setting_data id past o v [] = object (in_order (setting_members id past o v))
setting_data id past o v (i ∷ is) =
    object (in_order ((codes "aim", ids_data (i ∷ is)) ∷ setting_members id past o v))

-- the line of a change
abbrev pub change_data : Data → Data → Change → Data
change_data id past (Create s) = creation_data id past s s.form
change_data id past (Set o v aim) = setting_data id past o v aim

-- the value of the line that is written for the operation a
abbrev pub data_of : Op → Data
data_of a = change_data (name_data a.id) (clock_data a.past) a.change

-- the line that is written for the operation a
abbrev pub op_text : Op → List ℕ
op_text a = compact_text (data_of a)
