-- What a line of an edited text denotes (this project's choice).
use Rattle.std.specs.Prelude.{ℕ, ◌==◌, ◌&&◌, Bool, List, Option, Ok, Err, None, Some}
use Rattle.std.specs.Prelude.{if◌then◌else◌, IsTrue}
use Rattle.gf_ops.specs.declared.op.Op.{Op}
use Rattle.gf_ops.specs.Limits.{IsInRange, is_aim, is_change, is_id}
use Rattle.gf_json.specs.declared.line_error.LineError.TheVariants as fault
use Rattle.gf_json.specs.declared.scripts.Command.{Command}
use Rattle.gf_json.specs.declared.scripts.Command.TheVariants as script
use Rattle.gf_json.specs.declared.scripts.KeepLine.{KeepLine}
use Rattle.gf_json.specs.declared.scripts.ScriptLine.{ScriptLine}
use Rattle.gf_json.specs.LineValues.{Got, and_then}
use Rattle.gf_json.specs.KeepLines.{keep_denoted}
use Rattle.gf_json.specs.OperationLines.{denoted}
use Rattle.gf_json.specs.ScriptLines.{script_denoted}
use Rattle.gf_edit.specs.declared.edit_command.EditCommand.{EditCommand}
use Rattle.gf_edit.specs.declared.edit_command.EditCommand.TheVariants as command
use Rattle.gf_edit.specs.declared.entries.Entry.{Entry}
use Rattle.gf_edit.specs.declared.entries.Entry.TheVariants as entry

-- the command of a script, as one of an edit
abbrev pub of_script : Command → EditCommand
of_script (script.Author c) = command.Author c
of_script (script.Await i) = command.Await i

-- the command of site s; a command of another site is out of range
abbrev pub for_site : ℕ → ScriptLine → Got Entry
for_site s l = if l.site == s then Ok (entry.Command (of_script l.command)) else Err fault.Range

-- the command to keep what a line names
abbrev pub kept : KeepLine → EditCommand
kept l = command.Keep (record { object = l.object; with = l.with })

-- what site s keeps; a line of another site is out of range
abbrev pub keep_for_site : ℕ → KeepLine → Got Entry
keep_for_site s l = if l.site == s then Ok (entry.Command (kept l)) else Err fault.Range

-- a line that has not the form of a script line is read as one that keeps versions
abbrev pub command_of : ℕ → Got ScriptLine → Got KeepLine → Got Entry
command_of s (Ok l) k = for_site s l
command_of s (Err fault.Field) k = and_then (keep_for_site s) k
command_of s (Err e) k = Err e

-- the command of a line where a site edits; where none does, no line has the form of a command
abbrev pub command_by : Option ℕ → List ℕ → Got Entry
command_by None line = Err fault.Field
command_by (Some s) line = command_of s (script_denoted line) (keep_denoted line)

-- a line that has not the form of an operation is read as a command
abbrev pub entry_of : Got Op → Got Entry → Got Entry
entry_of (Ok a) c = Ok (entry.Operation a)
entry_of (Err fault.Field) c = c
entry_of (Err e) c = Err e

-- what a line denotes, or its first fault: an operation of any site, or a command of the one that
-- edits
abbrev pub denoted_by : Option ℕ → List ℕ → Got Entry
denoted_by editor line = entry_of (denoted line) (command_by editor line)

-- the same where site s edits
abbrev pub entry_denoted : ℕ → List ℕ → Got Entry
entry_denoted s line = denoted_by (Some s) line

-- the command keeps the limits
abbrev pub is_in_limits : EditCommand → Bool
is_in_limits (command.Author c) = is_change c
is_in_limits (command.Await i) = is_id i
is_in_limits (command.Keep k) = is_id k.object.0 && is_aim k.with

-- the entry keeps all limits
abbrev pub IsEntryInRange : Entry → Type 0
IsEntryInRange (entry.Operation a) = IsInRange a
IsEntryInRange (entry.Command c) = IsTrue (is_in_limits c)
