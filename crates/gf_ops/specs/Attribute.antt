-- The attributes of objects, and the value that an operation gives to each (this project's choice).
use Rattle.std.specs.Prelude.{ℕ, Bool, true, false, ◌==◌, List, [], Option, Some, None}
use Rattle.std.specs.Prelude.{if◌then◌else◌}
use Rattle.gf_ops.specs.declared.op.Op.{Op}
use Rattle.gf_ops.specs.declared.op.OpId.{OpId}
use Rattle.gf_ops.specs.declared.op.ObjectId.{ObjectId}
use Rattle.gf_ops.specs.declared.change.Form.{Form}
use Rattle.gf_ops.specs.declared.change.Form.TheVariants as form
use Rattle.gf_ops.specs.declared.change.Start.{Start}
use Rattle.gf_ops.specs.declared.change.Change.{Change}
use Rattle.gf_ops.specs.declared.change.Change.TheVariants.{Create, Set}
use Rattle.gf_ops.specs.declared.change.Attr.{Attr}
use Rattle.gf_ops.specs.declared.change.Attr.TheVariants.{Place, Points, Size, Colour, Layer, Shown}
use Rattle.gf_ops.specs.declared.change.Value.{Value}
use Rattle.gf_ops.specs.declared.change.Value.TheVariants as value
use Rattle.gf_ops.specs.contracts.change.AttrPartialEq.TheImpl as attributes

-- the kinds of objects
pub data Kind : Type 0 where
  Box : Kind
  Circle : Kind
  Ellipse : Kind
  Polygon : Kind

-- the kind of an object of the form f
abbrev pub kind_of : Form → Kind
kind_of (form.Rect width height) = Box
kind_of (form.Polygon ps) = Polygon
kind_of (form.Circle radius) = Circle
kind_of (form.Ellipse rx ry) = Ellipse

-- the kind of the object that the change c makes, if it makes one
abbrev pub made_kind : Change → Option Kind
made_kind (Create start) = Some (kind_of start.form)
made_kind (Set object v aim) = None

-- an object of the kind may have the value; the two numbers of a circle's size are its radius
abbrev pub suits : Kind → Value → Bool
suits kind (value.Place p) = true
suits kind (value.Colour c) = true
suits kind (value.Layer n) = true
suits kind (value.Shown b) = true
suits Box (value.Points ps) = false
suits Circle (value.Points ps) = false
suits Ellipse (value.Points ps) = false
suits Polygon (value.Points ps) = true
suits Box (value.Size width height) = true
suits Circle (value.Size width height) = width == height
suits Ellipse (value.Size width height) = true
suits Polygon (value.Size width height) = false

-- the attribute that v is a value of
abbrev pub attribute_of : Value → Attr
attribute_of (value.Place p) = Place
attribute_of (value.Points ps) = Points
attribute_of (value.Size width height) = Size
attribute_of (value.Colour c) = Colour
attribute_of (value.Layer n) = Layer
attribute_of (value.Shown b) = Shown

-- the index of an attribute
abbrev pub attribute_index : Attr → ℕ
attribute_index Place = 0
attribute_index Points = 1
attribute_index Size = 2
attribute_index Colour = 3
attribute_index Layer = 4
attribute_index Shown = 5

-- the value that the form f gives to its attribute
abbrev pub form_value : Form → Value
form_value (form.Rect width height) = value.Size width height
form_value (form.Polygon ps) = value.Points ps
form_value (form.Circle radius) = value.Size radius radius
form_value (form.Ellipse rx ry) = value.Size rx ry

-- the attribute that the form f gives a value to
abbrev pub form_attribute : Form → Attr
form_attribute f = attribute_of (form_value f)

-- s and t are one attribute, as the derived == tells
abbrev pub attribute_eq : Attr → Attr → Bool
attribute_eq = attributes.eq-value.it

-- the value v, if it is one of the attribute t
abbrev pub value_as : Value → Attr → Option Value
value_as v t = if attribute_eq (attribute_of v) t then Some v else None

-- the value of the attribute t in the start s, if the kind of the object has t
abbrev pub start_value : Start → Attr → Option Value
start_value s Place = Some (value.Place s.place)
start_value s Size = value_as (form_value s.form) Size
start_value s Points = value_as (form_value s.form) Points
start_value s Colour = Some (value.Colour s.colour)
start_value s Layer = Some (value.Layer s.layer)
start_value s Shown = Some (value.Shown s.shown)

-- the value that the change c gives to the attribute t, if it sets it
abbrev pub change_value : Change → Attr → Option Value
change_value (Create start) t = start_value start t
change_value (Set object v aim) t = value_as v t

-- the value that the operation a gives to the attribute t, if it sets it
abbrev pub value_given : Op → Attr → Option Value
value_given a t = change_value a.change t

-- the object that the change c of the operation under the id i concerns
abbrev pub changed_object : OpId → Change → ObjectId
changed_object i (Create start) = record { 0 = i }
changed_object i (Set object v aim) = object

-- the object that the operation a concerns
abbrev pub object_of : Op → ObjectId
object_of a = changed_object a.id a.change

-- the ids that the change c aims at: a creation at none
abbrev pub change_aim : Change → List OpId
change_aim (Create start) = []
change_aim (Set object v aim) = aim

-- the ids that the operation a aims at
abbrev pub aim_of : Op → List OpId
aim_of a = change_aim a.change
