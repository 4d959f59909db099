-- What a text denotes: operations, and commands where a site edits (this project's choice).
use Rattle.std.specs.Prelude.{ℕ, List, [], Option, None, Some}
use Rattle.gf_streams.specs.TextLines.{numbered_lines}
use Rattle.gf_ops.specs.declared.op.Op.{Op}
use Rattle.gf_replay.specs.declared.reading_error.ReadingError.{ReadingError}
use Rattle.gf_replay.specs.Denoting.{Delivers, Denotes}
use Rattle.gf_replay.specs.Refusing.{RefusesText}
use Rattle.gf_edit.specs.declared.entries.Entry.{Entry}
use Rattle.gf_edit.specs.EditedText.{AreEntriesOf, ops_in}
use Rattle.gf_edit.specs.EditFaults.{RefusesEntries}

-- the bytes denote some history
pub record DenotesHistory (bytes : List ℕ) : Type 0 where
  pub history : List Op
  pub denoted : Denotes bytes history

-- the bytes denote operations and commands of site s, and these operations deliver some history
pub record DenotesEntries (s : ℕ) (bytes : List ℕ) : Type 0 where
  pub entries : List (ℕ × Entry)
  pub lines : AreEntriesOf s (numbered_lines bytes) entries
  pub history : List Op
  pub delivers : Delivers (ops_in entries) history

-- the bytes denote some history, and commands of site s where that edits
abbrev pub DenotesSome : Option ℕ → List ℕ → Type 0
DenotesSome None bytes = DenotesHistory bytes
DenotesSome (Some s) bytes = DenotesEntries s bytes

-- why the bytes denote no history; want of memory may come with any
abbrev pub RefusesChecked : Option ℕ → List ℕ → ReadingError → Type 0
RefusesChecked None bytes e = RefusesText [] bytes e
RefusesChecked (Some s) bytes e = RefusesEntries s bytes e
