-- What is written for an operation is read as that operation.
use Rattle.std.proofs.Common.{◌≡◌, List, [], ◌∷◌, length, refl, true, ◌&&◌, ◌∙◌, codes}
use Rattle.std.specs.Prelude.{Option, Some, option_map}
use Rattle.std.proofs.lemmas.Bool.{and_parts}
use Rattle.gf_ops.specs.declared.op.Op.{Op}
use Rattle.gf_ops.specs.declared.op.OpId.{OpId}
use Rattle.gf_ops.specs.declared.op.ObjectId.{ObjectId}
use Rattle.gf_ops.specs.declared.change.Form.{Form}
use Rattle.gf_ops.specs.declared.change.Form.TheVariants.{Rect, Polygon, Circle, Ellipse}
use Rattle.gf_ops.specs.declared.change.Start.{Start}
use Rattle.gf_ops.specs.declared.change.Change.{Change}
use Rattle.gf_ops.specs.declared.change.Change.TheVariants.{Create, Set}
use Rattle.gf_ops.specs.declared.change.Value.{Value}
use Rattle.gf_ops.specs.declared.change.Value.TheVariants as value
use Rattle.gf_ops.specs.Limits.{is_id, is_clock, is_near, is_form, is_layer, is_colour, is_value}
use Rattle.gf_ops.specs.Limits.{is_aim, is_change, IsInRange}
use Rattle.serde_json.specs.Data.{Data}
use Rattle.gf_json.specs.LineForms.{◌&◌, clock, ids, name, radius}
use Rattle.gf_json.specs.LineKeys.{op_keys}
use Rattle.gf_json.specs.LineChanges.{at, change, named_value}
use Rattle.gf_json.specs.OperationLines.{op_of}
use Rattle.gf_json.specs.WrittenValues.{name_data, clock_data}
use Rattle.gf_json.specs.WrittenLines.{creation_data, setting_data, change_data, data_of}
use Rattle.gf_json.proofs.AgainLemmas.{ids_again, name_again, clock_again, size_again, radius_again}
use Rattle.gf_json.proofs.AgainLemmas.{points_again, point_again, colour_again, level_again}

-- ---- creations

creation_again : (i p : Data) (s : Start) (f : Form) → is_form f ≡ true → is_near s.place ≡ true
    → is_layer s.layer ≡ true → is_colour s.colour ≡ true
    → change (codes "op") op_keys (creation_data i p s f) ≡ Some
    (Create (record {
      form = f;
      place = s.place;
      colour = s.colour;
      layer = s.layer;
      shown = s.shown;
    }))
creation_again i p s (Rect width height) form near level fill = rw (
  size_again width height form,
  point_again s.place near,
  colour_again s.colour fill,
  level_again s.layer level,
) refl
creation_again i p s (Polygon ps) form near level fill = rw (
  points_again ps form,
  point_again s.place near,
  colour_again s.colour fill,
  level_again s.layer level,
) refl
creation_again i p s (Circle radius) form near level fill = rw (
  radius_again radius form,
  point_again s.place near,
  colour_again s.colour fill,
  level_again s.layer level,
) refl
creation_again i p s (Ellipse rx ry) form near level fill = rw (
  size_again rx ry form,
  point_again s.place near,
  colour_again s.colour fill,
  level_again s.layer level,
) refl

-- ---- settings

-- the value that d sets an attribute to
abbrev value_of : Data → Option Value
value_of d = at (codes "to") (named_value d) d

value_again : (i p : Data) (o : ObjectId) (v : Value) → is_value v ≡ true
    → value_of (setting_data i p o v []) ≡ Some v
value_again i p o (value.Place q) h = rw (point_again q h) refl
value_again i p o (value.Points ps) h = rw (points_again ps h) refl
value_again i p o (value.Size width height) h = rw (size_again width height h) refl
value_again i p o (value.Colour c) h = rw (colour_again c h) refl
value_again i p o (value.Layer n) h = rw (level_again n h) refl
value_again i p o (value.Shown b) h = refl

-- the key of an aim changes nothing of the value
aimed_value : (i p : Data) (o : ObjectId) (v : Value) (j : OpId) (js : List OpId)
    → value_of (setting_data i p o v (j ∷ js)) ≡ value_of (setting_data i p o v [])
aimed_value i p o (value.Place q) j js = refl
aimed_value i p o (value.Points ps) j js = refl
aimed_value i p o (value.Size width height) j js = refl
aimed_value i p o (value.Colour c) j js = refl
aimed_value i p o (value.Layer n) j js = refl
aimed_value i p o (value.Shown b) j js = refl

setting_parts : (x : Option OpId) (y : Option Value) (z : Option (List OpId)) (o : OpId)
    (v : Value) (ids : List OpId) → x ≡ Some o → y ≡ Some v → z ≡ Some ids
    → option_map {U = Change} (λ (p, (new, is)). Set (record { 0 = p }) new is) (x & y & z)
    ≡ Some (Set (record { 0 = o }) v ids)
setting_parts x y z o v ids h k l = rw (h, k, l) refl

setting_again : (i p : Data) (o : ObjectId) (v : Value) (aim : List OpId) → is_id o.0 ≡ true
    → is_value v ≡ true → is_aim aim ≡ true
    → change (codes "op") op_keys (setting_data i p o v aim) ≡ Some (Set o v aim)
setting_again i p o v [] named h few =
    let d = setting_data i p o v [] in
    setting_parts (at (codes "object") name d) (value_of d) (Some []) o.0 v []
    (name_again o.0 named) (value_again i p o v h) refl
setting_again i p o v (j ∷ js) named h few =
    let d = setting_data i p o v (j ∷ js) in
    setting_parts (at (codes "object") name d) (value_of d) (at (codes "aim") ids d) o.0 v (j ∷ js)
    (name_again o.0 named) (aimed_value i p o v j js ∙ value_again i p o v h)
    (ids_again (j ∷ js) few)

-- ---- operations

pub change_again : (i p : Data) (c : Change) → is_change c ≡ true
    → change (codes "op") op_keys (change_data i p c) ≡ Some c
change_again i p (Create s) h =
    let whole = and_parts (is_form s.form && is_near s.place && is_layer s.layer)
    (is_colour s.colour) h in
    let rest = and_parts (is_form s.form && is_near s.place) (is_layer s.layer) whole.0 in
    let first = and_parts (is_form s.form) (is_near s.place) rest.0 in
    creation_again i p s s.form first.0 first.1 rest.1 whole.1
change_again i p (Set o v ids) h =
    let rest = and_parts (is_id o.0 && is_value v) (is_aim ids) h in
    let first = and_parts (is_id o.0) (is_value v) rest.0 in
    setting_again i p o v ids first.0 first.1 rest.1

id-creation_data : (i p : Data) (s : Start) (f : Form)
    → at (codes "id") name (creation_data i p s f) ≡ name i
id-creation_data i p s (Rect width height) = refl
id-creation_data i p s (Polygon ps) = refl
id-creation_data i p s (Circle radius) = refl
id-creation_data i p s (Ellipse rx ry) = refl

id-change_data : (i p : Data) (c : Change) → at (codes "id") name (change_data i p c) ≡ name i
id-change_data i p (Create s) = id-creation_data i p s s.form
id-change_data i p (Set o v []) = refl
id-change_data i p (Set o v (j ∷ js)) = refl

past-creation_data : (i p : Data) (s : Start) (f : Form)
    → at (codes "past") clock (creation_data i p s f) ≡ clock p
past-creation_data i p s (Rect width height) = refl
past-creation_data i p s (Polygon ps) = refl
past-creation_data i p s (Circle radius) = refl
past-creation_data i p s (Ellipse rx ry) = refl

past-change_data : (i p : Data) (c : Change)
    → at (codes "past") clock (change_data i p c) ≡ clock p
past-change_data i p (Create s) = past-creation_data i p s s.form
past-change_data i p (Set o v []) = refl
past-change_data i p (Set o v (j ∷ js)) = refl

-- an operation within the limits, with a clock of eight entries
pub op_of-data_of : (a : Op) → length a.past.0 ≡ 8 → IsInRange a → op_of (data_of a) ≡ Some a
op_of-data_of a eight h =
    let i = name_data a.id in
    let p = clock_data a.past in
    let rest = and_parts (is_id a.id && is_clock a.past) (is_change a.change) h in
    let first = and_parts (is_id a.id) (is_clock a.past) rest.0 in
    rw (
      id-change_data i p a.change,
      name_again a.id first.0,
      past-change_data i p a.change,
      clock_again a.past eight first.1,
      change_again i p a.change rest.1,
    ) refl
