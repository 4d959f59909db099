-- Script lines (RFC 8259 by serde_json's value; keys and limits are this project's choice).
use Rattle.std.specs.Prelude.{ℕ, Bool, ◌&&◌, IsTrue, List, Option, option_map, codes}
use Rattle.std.specs.Prelude.{if◌then◌else◌}
use Rattle.gf_ops.specs.Limits.{is_site, is_id, is_change}
use Rattle.gf_json.specs.declared.scripts.Command.{Command}
use Rattle.gf_json.specs.declared.scripts.Command.TheVariants.{Author, Await}
use Rattle.gf_json.specs.declared.scripts.ScriptLine.{ScriptLine}
use Rattle.serde_json.specs.Data.{Data}
use Rattle.gf_json.specs.LineValues.{Got, and_then, within}
use Rattle.gf_json.specs.LineForms.{◌&◌, name, natural}
use Rattle.gf_json.specs.LineKeys.{author_keys, awaits}
use Rattle.gf_json.specs.LineChanges.{at, change}
use Rattle.gf_json.specs.OperationLines.{json}

-- the command keeps the limits
abbrev pub is_command : Command → Bool
is_command (Author c) = is_change c
is_command (Await i) = is_id i

-- the line s of a script keeps all limits
abbrev pub is_script : ScriptLine → Bool
is_script s = is_site s.site && is_command s.command

-- the line s of a script keeps all limits
abbrev pub IsScriptInRange : ScriptLine → Type 0
IsScriptInRange s = IsTrue (is_script s)

-- the command of a line's value: to wait for an operation, or to make a change
abbrev pub command_of : Data → Option Command
command_of d = if awaits d then option_map Await (at (codes "id") name d)
    else option_map Author (change (codes "do") author_keys d)

-- the line of a script by its value, whatever its limits
abbrev pub script_of : Data → Option ScriptLine
script_of d = option_map (λ p. record { site = p.0; command = p.1 })
    (at (codes "site") natural d & command_of d)

-- the command that a line of a script denotes, or its first fault
abbrev pub script_denoted : List ℕ → Got ScriptLine
script_denoted line = and_then (λ d. within is_script (script_of d)) (json line)
