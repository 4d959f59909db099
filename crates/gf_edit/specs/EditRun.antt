-- What the editing run writes, and why it is refused (this project's choice).
use Rattle.std.specs.Prelude.{◌≡◌, ◌≢◌, ℕ, List, Contains, Option, None, Some}
use Rattle.std.specs.declared.cmp.Ordering.TheVariants.{Less}
use Rattle.gf_streams.specs.TextLines.{numbered_lines}
use Rattle.gf_ops.specs.declared.op.Op.{Op}
use Rattle.gf_ops.specs.declared.op.OpId.{OpId}
use Rattle.gf_ops.specs.Accepted.{AreAccepted}
use Rattle.gf_ops.specs.OperationOrder.{id_cmp}
use Rattle.gf_causal.specs.Waiting.{waits_for}
use Rattle.gf_replay.specs.Denoting.{AreLinesOf, Delivers}
use Rattle.gf_run.specs.declared.studio_error.StudioError.{StudioError}
use Rattle.gf_run.specs.declared.studio_error.StudioError.TheVariants as studio
use Rattle.gf_run.specs.RefusedRuns.{IsOfRun}
use Rattle.gf_run.specs.RunAnswers.{WritesText}
use Rattle.gf_edit.specs.declared.entries.Entry.{Entry}
use Rattle.gf_edit.specs.declared.edit_error.EditError.{EditError}
use Rattle.gf_edit.specs.declared.edit_error.EditError.TheVariants as edit
use Rattle.gf_edit.specs.declared.made.Made.{Made}
use Rattle.gf_edit.specs.MadeOperations.{made_of}
use Rattle.gf_edit.specs.Making.{HasRefused, written_lines}
use Rattle.gf_edit.specs.RefusedCommands.{KeepsNone, RefusesFor}
use Rattle.gf_edit.specs.declared.edit_command.EditCommand.{EditCommand}
use Rattle.gf_causal.specs.Blocking.{Blocks}
use Rattle.gf_edit.specs.EditedText.{AreEntriesOf, DenotesEdit, AreDelivered}
use Rattle.gf_edit.specs.EditedText.{commands_in, ops_in}
use Rattle.gf_edit.specs.EditFaults.{DropsAt, HasLineFault}

-- the text has the lines of the new operations that the commands of the bytes make. The text
-- denotes these operations and no others, and made names the first and the last
pub record Edits (s : ℕ) (bytes text : List ℕ) (made : Option Made) : Type 0 where
  pub new : List Op
  pub denoted : DenotesEdit s bytes new
  pub is : text ≡ written_lines new
  pub denotes : AreLinesOf (numbered_lines text) new
  pub told : made ≡ made_of new

-- known bytes grow from old to new by the lines of the new operations, which made is about
abbrev pub WritesEdit : ℕ → List ℕ → Option Made → Option (List ℕ) → Option (List ℕ) → Type 0
WritesEdit s bytes made old new = WritesText (λ text. Edits s bytes text made) old new

-- the text has the lines of the new operations
abbrev pub IsEditOf : ℕ → List ℕ → List ℕ → Type 0
IsEditOf s bytes text = (made : Option Made) × Edits s bytes text made

-- of these operations, op has the least id of all that block site s behind h
pub record IsFirstBlocking (s : ℕ) (h ops : List Op) (op : Op) : Type 0 where
  pub contained : Contains ops op
  pub blocks : Blocks s h op
  pub least : (a : Op) → Contains ops a → Blocks s h a → id_cmp a.id op.id ≢ Less

-- of the operations that block site s, i has the least id, and it waits for j
pub record HasBlocking (s : ℕ) (bytes : List ℕ) (i j : OpId) : Type 0 where
  pub entries : List (ℕ × Entry)
  pub lines : AreEntriesOf s (numbered_lines bytes) entries
  pub history : List Op
  pub delivers : Delivers (ops_in entries) history
  pub accepted : AreAccepted history
  pub op : Op
  pub blocking : IsFirstBlocking s history (ops_in entries) op
  pub named : i ≡ op.id
  pub waits : j ≡ waits_for history op

-- the command of line n is the first that site s refuses
pub record HasRefusedCommand (Refused : List Op → EditCommand → Type 0) (s : ℕ)
    (bytes : List ℕ) (n : ℕ) : Type 0 where
  pub entries : List (ℕ × Entry)
  pub lines : AreEntriesOf s (numbered_lines bytes) entries
  pub history : List Op
  pub behind : AreDelivered s entries history
  pub refusal : HasRefused Refused s history (commands_in entries) n

-- why an editing run is refused
abbrev pub RefusesEdit : ℕ → List ℕ → EditError → Type 0
RefusesEdit s bytes (edit.Run (studio.Line n why)) = HasLineFault s bytes n why
RefusesEdit s bytes (edit.Run (studio.Dropped id fault)) = DropsAt s bytes id fault
RefusesEdit s bytes (edit.Run e) = IsOfRun e
RefusesEdit s bytes (edit.Waits i j) = HasBlocking s bytes i j
RefusesEdit s bytes (edit.Refused n why) = HasRefusedCommand (RefusesFor s why) s bytes n
RefusesEdit s bytes (edit.NoVersion n) = HasRefusedCommand KeepsNone s bytes n

-- the error of an edit that other runs may have too
abbrev pub of_edit : EditError → Option StudioError
of_edit (edit.Run e) = Some e
of_edit other = None
