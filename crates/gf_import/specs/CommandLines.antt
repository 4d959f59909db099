-- The command lines of changes of one site (this project's choice).
use Rattle.std.specs.Prelude.{◌≡◌, ℕ, List, [], ◌∷◌, ◌++◌, map, flat_map, Ok}
use Rattle.gf_streams.specs.TextLines.{numbered_lines}
use Rattle.gf_ops.specs.declared.change.Change.{Change}
use Rattle.gf_json.specs.declared.scripts.Command.TheVariants.{Author}
use Rattle.gf_json.specs.declared.scripts.ScriptLine.{ScriptLine}
use Rattle.gf_json.specs.LineValues.{Got}
use Rattle.gf_json.specs.ScriptLines.{script_denoted}
use Rattle.gf_json.specs.WrittenScripts.{script_text}

-- the command of site s to make the change c
abbrev pub command_of : ℕ → Change → ScriptLine
command_of s c = record { site = s; command = Author c }

-- what a line of this command reads as
abbrev pub denotes_change : ℕ → Change → Got ScriptLine
denotes_change s c = Ok (command_of s c)

-- the line of the command of site s to make the change c, with LF
abbrev pub command_line : ℕ → Change → List ℕ
command_line s c = script_text (command_of s c) ++ 10 ∷ []

-- the lines of the commands to make these changes, in order
abbrev pub command_lines : ℕ → List Change → List ℕ
command_lines s changes = flat_map (command_line s) changes

-- the lines of the text denote commands of site s to make the changes, in order
abbrev pub DenotesChanges : ℕ → List ℕ → List Change → Type 0
DenotesChanges s text changes =
    map (λ (line : ℕ × List ℕ). script_denoted line.1) (numbered_lines text)
    ≡ map (denotes_change s) changes
