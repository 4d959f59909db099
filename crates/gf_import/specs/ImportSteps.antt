-- What the parts of an import have made. No public clause cites this module.
use Rattle.std.specs.Prelude.{◌≡◌, ℕ, List, Contains, Ok}
use Rattle.gf_ops.specs.declared.change.Change.{Change}
use Rattle.gf_fig_read.specs.FigGrammar.{Reads}
use Rattle.gf_fig_read.specs.Objects.{Drawn}
use Rattle.gf_json.specs.ScriptLines.{IsScriptInRange, script_denoted}
use Rattle.gf_json.specs.WrittenScripts.{script_text}
use Rattle.gf_import.specs.CommandLines.{command_lines, command_of}
use Rattle.gf_import.specs.Imported.{IsImportable}
use Rattle.gf_import.specs.Importing.{creations_of}

-- the FIG text reads as a drawing that can be imported, and these are its creations
pub record HasCreations (fig : List ℕ) (changes : List Change) : Type 0 where
  pub drawing : Drawn
  pub reads : Reads fig drawing
  pub importable : IsImportable drawing
  pub is : changes ≡ creations_of drawing

-- the line of the command of site s to make the change c is read again as this command
abbrev pub IsReadAgain : ℕ → Change → Type 0
IsReadAgain s c = IsScriptInRange (command_of s c)
    → script_denoted (script_text (command_of s c)) ≡ Ok (command_of s c)

-- the text has the lines of these changes, each of which is read again
pub record AreWritten (s : ℕ) (changes : List Change) (text : List ℕ) : Type 0 where
  pub is : text ≡ command_lines s changes
  pub again : (c : Change) → Contains changes c → IsReadAgain s c
