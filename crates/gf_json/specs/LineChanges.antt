-- The change that a line tells, whatever its limits (RFC 8259 by serde_json's value; words and
-- forms are this project's choice).
use Rattle.std.specs.Prelude.{ℕ, List, [], Option, Some, None, option_map, option_and_then, codes}
use Rattle.std.specs.Prelude.{if◌then◌else◌}
use Rattle.gf_ops.specs.declared.op.OpId.{OpId}
use Rattle.gf_ops.specs.declared.change.Form.{Form}
use Rattle.gf_ops.specs.declared.change.Form.TheVariants.{Rect, Polygon, Circle, Ellipse}
use Rattle.gf_ops.specs.declared.change.Change.{Change}
use Rattle.gf_ops.specs.declared.change.Change.TheVariants.{Create, Set}
use Rattle.gf_ops.specs.declared.change.Value.{Value}
use Rattle.gf_ops.specs.declared.change.Value.TheVariants as value
use Rattle.serde_json.specs.Data.{Data}
use Rattle.serde_json.specs.Find.{get, as_bool}
use Rattle.gf_json.specs.LineForms.{◌&◌, all, hex_colour, ids, name, natural, pair, point, radius}
use Rattle.gf_json.specs.LineKeys.{says, creates, sets, sets_aimed}

-- the value at a key, in its form
abbrev pub at : {A : Type 0} → List ℕ → (Data → Option A) → Data → Option A
at key form d = option_and_then form (get key d)

-- the change that creates an object of the form
abbrev pub creation : Option Form → Data → Option Change
creation form d = option_map
    (λ (f, (p, (c, (l, s)))). Create
    (record { form = f; place = p; colour = c; layer = l; shown = s }))
    (form & at (codes "place") point d & at (codes "colour") hex_colour d
    & at (codes "layer") natural d & at (codes "shown") as_bool d)

-- v in the form of the attribute that the line d names
abbrev pub named_value : Data → Data → Option Value
named_value d v =
    if says (codes "set") (codes "place") d then option_map value.Place (point v)
    else (if says (codes "set") (codes "points") d then option_map value.Points (all point v)
    else (if says (codes "set") (codes "size") d
    then option_map (λ s. value.Size s.0 s.1) (pair natural v)
    else (if says (codes "set") (codes "colour") d then option_map value.Colour (hex_colour v)
    else (if says (codes "set") (codes "layer") d then option_map value.Layer (natural v)
    else (if says (codes "set") (codes "shown") d then option_map value.Shown (as_bool v)
    else None)))))

-- the change that sets an attribute of an object, aimed at these ids
abbrev pub setting : Option (List OpId) → Data → Option Change
setting aim d = option_map (λ (o, (v, ids)). Set (record { 0 = o }) v ids)
    (at (codes "object") name d & at (codes "to") (named_value d) d & aim)

-- the change of a line with its verb at this key, and with these keys beside those of the change
abbrev pub change : List ℕ → List (List ℕ) → Data → Option Change
change verb beside d =
    if creates verb beside (codes "box") (codes "size") d
    then creation (option_map (λ p. Rect p.0 p.1) (at (codes "size") (pair natural) d)) d
    else (if creates verb beside (codes "circle") (codes "size") d
    then creation (option_map Circle (at (codes "size") radius d)) d
    else (if creates verb beside (codes "ellipse") (codes "size") d
    then creation (option_map (λ p. Ellipse p.0 p.1) (at (codes "size") (pair natural) d)) d
    else (if creates verb beside (codes "polygon") (codes "points") d
    then creation (option_map Polygon (at (codes "points") (all point) d)) d
    else (if sets verb beside d then setting (Some []) d
    else (if sets_aimed verb beside d then setting (at (codes "aim") ids d) d
    else None)))))
