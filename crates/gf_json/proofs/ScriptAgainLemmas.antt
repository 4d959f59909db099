-- What is written for a command is read as that command.
use Rattle.std.proofs.Common.{◌≡◌, ℕ, List, [], ◌∷◌, refl, true, ◌∙◌, codes}
use Rattle.std.specs.Prelude.{Some, option_map}
use Rattle.gf_ops.specs.declared.op.OpId.{OpId}
use Rattle.gf_ops.specs.declared.op.ObjectId.{ObjectId}
use Rattle.gf_ops.specs.declared.change.Form.{Form}
use Rattle.gf_ops.specs.declared.change.Form.TheVariants.{Rect, Polygon, Circle, Ellipse}
use Rattle.gf_ops.specs.declared.change.Start.{Start}
use Rattle.gf_ops.specs.declared.change.Change.{Change}
use Rattle.gf_ops.specs.declared.change.Change.TheVariants.{Create, Set}
use Rattle.gf_ops.specs.declared.change.Value.{Value}
use Rattle.gf_ops.specs.declared.change.Value.TheVariants as value
use Rattle.gf_ops.specs.Limits.{is_site}
use Rattle.gf_json.specs.declared.scripts.Command.{Command}
use Rattle.gf_json.specs.declared.scripts.Command.TheVariants.{Author, Await}
use Rattle.gf_json.specs.declared.scripts.ScriptLine.{ScriptLine}
use Rattle.serde_json.specs.Data.{null}
use Rattle.gf_json.specs.LineForms.{natural}
use Rattle.gf_json.specs.LineKeys.{op_keys, author_keys}
use Rattle.gf_json.specs.LineChanges.{at, change}
use Rattle.gf_json.specs.ScriptLines.{command_of, is_command, IsScriptInRange, script_of}
use Rattle.gf_json.specs.WrittenLines.{creation_data, setting_data, change_data}
use Rattle.gf_json.specs.WrittenScripts.{script_data}
use Rattle.std.proofs.lemmas.Bool.{and_parts}
use Rattle.gf_json.proofs.AgainLemmas.{name_again, site_again}
use Rattle.gf_json.proofs.WrittenLemmas.{line_data, create_data}
use Rattle.gf_json.proofs.OpAgainLemmas.{change_again}

-- ---- the change is read as in the line of an operation

same_creation : (n : ℕ) (s : Start) (f : Form)
    → change (codes "do") author_keys (create_data n s f)
    ≡ change (codes "op") op_keys (creation_data null null s f)
same_creation n s (Rect width height) = refl
same_creation n s (Polygon ps) = refl
same_creation n s (Circle radius) = refl
same_creation n s (Ellipse rx ry) = refl

same_setting : (n : ℕ) (o : ObjectId) (v : Value)
    → change (codes "do") author_keys (line_data n (Author (Set o v [])))
    ≡ change (codes "op") op_keys (setting_data null null o v [])
same_setting n o (value.Place p) = refl
same_setting n o (value.Points ps) = refl
same_setting n o (value.Size width height) = refl
same_setting n o (value.Colour c) = refl
same_setting n o (value.Layer k) = refl
same_setting n o (value.Shown b) = refl

same_aimed : (n : ℕ) (o : ObjectId) (v : Value) (j : OpId) (js : List OpId)
    → change (codes "do") author_keys (line_data n (Author (Set o v (j ∷ js))))
    ≡ change (codes "op") op_keys (setting_data null null o v (j ∷ js))
same_aimed n o (value.Place p) j js = refl
same_aimed n o (value.Points ps) j js = refl
same_aimed n o (value.Size width height) j js = refl
same_aimed n o (value.Colour c) j js = refl
same_aimed n o (value.Layer k) j js = refl
same_aimed n o (value.Shown b) j js = refl

same_change : (n : ℕ) (c : Change)
    → change (codes "do") author_keys (line_data n (Author c))
    ≡ change (codes "op") op_keys (change_data null null c)
same_change n (Create s) = same_creation n s s.form
same_change n (Set o v []) = same_setting n o v
same_change n (Set o v (j ∷ js)) = same_aimed n o v j js

-- ---- commands

site-create_data : (n : ℕ) (s : Start) (f : Form) → is_site n ≡ true
    → at (codes "site") natural (create_data n s f) ≡ Some n
site-create_data n s (Rect width height) h = site_again n h
site-create_data n s (Polygon ps) h = site_again n h
site-create_data n s (Circle radius) h = site_again n h
site-create_data n s (Ellipse rx ry) h = site_again n h

site-line_data : (n : ℕ) (c : Command) → is_site n ≡ true
    → at (codes "site") natural (line_data n c) ≡ Some n
site-line_data n (Author (Create s)) h = site-create_data n s s.form h
site-line_data n (Author (Set o v [])) h = site_again n h
site-line_data n (Author (Set o v (j ∷ js))) h = site_again n h
site-line_data n (Await i) h = site_again n h

-- a command to make a change awaits nothing
authored-create_data : (n : ℕ) (s : Start) (f : Form) → command_of (create_data n s f)
    ≡ option_map Author (change (codes "do") author_keys (create_data n s f))
authored-create_data n s (Rect width height) = refl
authored-create_data n s (Polygon ps) = refl
authored-create_data n s (Circle radius) = refl
authored-create_data n s (Ellipse rx ry) = refl

authored-line_data : (n : ℕ) (c : Change) → command_of (line_data n (Author c))
    ≡ option_map Author (change (codes "do") author_keys (line_data n (Author c)))
authored-line_data n (Create s) = authored-create_data n s s.form
authored-line_data n (Set o v []) = refl
authored-line_data n (Set o v (j ∷ js)) = refl

command_of-line_data : (n : ℕ) (c : Command) → is_command c ≡ true
    → command_of (line_data n c) ≡ Some c
command_of-line_data n (Author c) k =
    authored-line_data n c ∙ rw (same_change n c ∙ change_again null null c k) refl
command_of-line_data n (Await i) k = rw (name_again i k) refl

-- a command within the limits
pub script_of-script_data : (s : ScriptLine) → IsScriptInRange s
    → script_of (script_data s) ≡ Some s
script_of-script_data s h =
    let parts = and_parts (is_site s.site) (is_command s.command) h in
    rw (
      site-line_data s.site s.command parts.0,
      command_of-line_data s.site s.command parts.1,
    ) refl
