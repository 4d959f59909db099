-- The line that is written for a command (RFC 8259 by serde_json's compact text; the keys, in
-- rising byte order, are this project's choice).
use Rattle.std.specs.Prelude.{ℕ, List, [], ◌∷◌, ◌++◌, codes}
use Rattle.gf_ops.specs.declared.change.Change.{Change}
use Rattle.gf_ops.specs.declared.change.Change.TheVariants.{Create, Set}
use Rattle.gf_json.specs.declared.scripts.Command.{Command}
use Rattle.gf_json.specs.declared.scripts.Command.TheVariants.{Author, Await}
use Rattle.gf_json.specs.declared.scripts.ScriptLine.{ScriptLine}
use Rattle.serde_json.specs.Data.{Data, string, object, no_members}
use Rattle.serde_json.specs.Written.{compact_text}
use Rattle.gf_json.specs.WrittenValues.{natural_data, name_data}
use Rattle.gf_json.specs.WrittenMembers.{put_all, look_members, form_members, set_members}

-- the members for making a change
abbrev pub authored_members : Change → List (List ℕ × Data)
authored_members (Create s) =
    (codes "do", string (codes "create")) ∷ (look_members s ++ form_members s.form)
authored_members (Set o v aim) = (codes "do", string (codes "set")) ∷ set_members o v aim

-- the members for a command
abbrev pub command_members : Command → List (List ℕ × Data)
command_members (Author c) = authored_members c
command_members (Await i) = (codes "do", string (codes "await")) ∷ (codes "id", name_data i) ∷ []

-- the value of the line that is written for the command s: its members, by rising keys
abbrev pub script_data : ScriptLine → Data
script_data s =
    object (put_all ((codes "site", natural_data s.site) ∷ command_members s.command) no_members)

-- the line that is written for the command s
abbrev pub script_text : ScriptLine → List ℕ
script_text s = compact_text (script_data s)
