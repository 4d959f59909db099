-- A line by the number of its keys and by its words alone, whatever its limits. No public clause
-- cites this module.
use Rattle.std.specs.Prelude.{ℕ, ◌+◌, Bool, ◌&&◌, List, [], Option, Some, None, option_map, codes}
use Rattle.std.specs.Prelude.{if◌then◌else◌}
use Rattle.gf_ops.specs.declared.op.Op.{Op}
use Rattle.gf_ops.specs.declared.change.Change.{Change}
use Rattle.gf_ops.specs.declared.change.Form.{Form}
use Rattle.gf_ops.specs.declared.change.Form.TheVariants.{Rect, Polygon, Circle, Ellipse}
use Rattle.gf_json.specs.declared.scripts.Command.{Command}
use Rattle.gf_json.specs.declared.scripts.Command.TheVariants.{Author, Await}
use Rattle.gf_json.specs.declared.scripts.ScriptLine.{ScriptLine}
use Rattle.serde_json.specs.Data.{Data}
use Rattle.serde_json.specs.Find.{as_object}
use Rattle.gf_json.specs.LineForms.{◌&◌, all, clock, ids, name, natural, pair, point, radius}
use Rattle.gf_json.specs.LineKeys.{has_count, says}
use Rattle.gf_json.specs.LineChanges.{at, creation, setting}

-- the line has this many keys, and this word as its verb
abbrev pub tells : ℕ → List ℕ → List ℕ → Data → Bool
tells count verb word d = has_count count (as_object d) && says verb word d

-- the form of the kind that the line names
unfoldable pub named_form : Data → Option Form
named_form d =
    if says (codes "kind") (codes "box") d
    then option_map (λ p. Rect p.0 p.1) (at (codes "size") (pair natural) d)
    else (if says (codes "kind") (codes "circle") d
    then option_map Circle (at (codes "size") radius d)
    else (if says (codes "kind") (codes "ellipse") d
    then option_map (λ p. Ellipse p.0 p.1) (at (codes "size") (pair natural) d)
    else (if says (codes "kind") (codes "polygon") d
    then option_map Polygon (at (codes "points") (all point) d)
    else None)))

-- the change of a line with its verb at this key, and this many keys beside those of the change
unfoldable pub read_change : List ℕ → ℕ → Data → Option Change
read_change verb beside d =
    if tells (beside + 6) verb (codes "create") d then creation (named_form d) d
    else (if tells (beside + 3) verb (codes "set") d then setting (Some []) d
    else (if tells (beside + 4) verb (codes "set") d then setting (at (codes "aim") ids d) d
    else None))

-- the operation of a line
abbrev pub read_operation : Data → Option Op
read_operation d = option_map (λ (i, (known, new)). record { id = i; past = known; change = new })
    (at (codes "id") name d & at (codes "past") clock d & read_change (codes "op") 3 d)

-- the command of a line: to wait for an operation, or to make a change
unfoldable pub read_command : Data → Option Command
read_command d =
    if tells 3 (codes "do") (codes "await") d then option_map Await (at (codes "id") name d)
    else option_map Author (read_change (codes "do") 2 d)

-- the line of a script
abbrev pub read_script_line : Data → Option ScriptLine
read_script_line d = option_map (λ p. record { site = p.0; command = p.1 })
    (at (codes "site") natural d & read_command d)
