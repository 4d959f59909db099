-- The members of a written line, part by part (RFC 8259 by serde_json's value; the keys are this
-- project's choice).
use Rattle.std.specs.Prelude.{ℕ, List, [], ◌∷◌, codes}
use Rattle.gf_ops.specs.declared.op.Op.{Op}
use Rattle.gf_ops.specs.declared.op.OpId.{OpId}
use Rattle.gf_ops.specs.declared.op.ObjectId.{ObjectId}
use Rattle.gf_ops.specs.declared.change.Form.{Form}
use Rattle.gf_ops.specs.declared.change.Form.TheVariants.{Rect, Polygon, Circle, Ellipse}
use Rattle.gf_ops.specs.declared.change.Start.{Start}
use Rattle.gf_ops.specs.declared.change.Value.{Value}
use Rattle.serde_json.specs.Data.{Data, boolean, string, Members, put}
use Rattle.gf_json.specs.WrittenValues.{natural_data, name_data, ids_data, clock_data, point_data}
use Rattle.gf_json.specs.WrittenValues.{points_data, size_data, colour_data, value_data}
use Rattle.gf_json.specs.WrittenLines.{attribute_word, in_order}

-- ms, with the members of the list put one after the other, each at its place by rising keys
abbrev pub put_all : List (List ℕ × Data) → Members → Members
put_all [] ms = ms
put_all ((key, d) ∷ rest) ms = put_all rest (put key d ms)

-- the members that each line of an operation a has, where a does what the word says
abbrev pub begun : Op → List ℕ → Members
begun a word = in_order (
    (codes "id", name_data a.id)
    ∷ (codes "op", string word)
    ∷ (codes "past", clock_data a.past)
    ∷ [])

-- the members that the line of each new object has
abbrev pub look_members : Start → List (List ℕ × Data)
look_members s =
    (codes "colour", colour_data s.colour)
    ∷ (codes "layer", natural_data s.layer)
    ∷ (codes "place", point_data s.place)
    ∷ (codes "shown", boolean s.shown)
    ∷ []

-- the member for an aim, if it has ids
abbrev pub aim_members : List OpId → List (List ℕ × Data)
aim_members [] = []
aim_members (i ∷ is) = (codes "aim", ids_data (i ∷ is)) ∷ []

-- the members for a kind, and for the form of the new object at its key
abbrev pub shape_members : List ℕ → List ℕ → Data → List (List ℕ × Data)
shape_members kind key d = (codes "kind", string kind) ∷ (key, d) ∷ []

-- the members for the kind of a form, and for the form
abbrev pub form_members : Form → List (List ℕ × Data)
form_members (Rect width height) =
    shape_members (codes "box") (codes "size") (size_data width height)
form_members (Polygon ps) = shape_members (codes "polygon") (codes "points") (points_data ps)
form_members (Circle radius) =
    shape_members (codes "circle") (codes "size") (size_data radius radius)
form_members (Ellipse rx ry) = shape_members (codes "ellipse") (codes "size") (size_data rx ry)

-- the members for setting the object o to v, aimed at these ids
abbrev pub set_members : ObjectId → Value → List OpId → List (List ℕ × Data)
set_members o v aim =
    (codes "object", name_data o.0)
    ∷ (codes "set", string (attribute_word v))
    ∷ (codes "to", value_data v)
    ∷ aim_members aim
