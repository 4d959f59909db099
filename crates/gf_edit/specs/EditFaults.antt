-- Which line is at fault, and which operation doesn't fit (this project's choice).
use Rattle.std.specs.Prelude.{◌≡◌, ℕ, List, [], ◌∷◌, ◌++◌, Contains, Ok, Err, ⊤}
use Rattle.gf_streams.specs.TextLines.{numbered_lines}
use Rattle.gf_ops.specs.declared.op.Op.{Op}
use Rattle.gf_ops.specs.declared.op.OpId.{OpId}
use Rattle.gf_ops.specs.declared.faults.OpFault.{OpFault}
use Rattle.gf_ops.specs.Accepted.{IsRefused}
use Rattle.gf_ops.specs.ValidHistory.{IsValid}
use Rattle.gf_causal.specs.DeliveredPart.{AreOneById, IsDelivery}
use Rattle.gf_causal.specs.HeldOperations.{HasOther}
use Rattle.gf_causal.specs.Ready.{IsReady}
use Rattle.gf_json.specs.declared.line_error.LineError.TheVariants as line
use Rattle.gf_replay.specs.Denoting.{Delivers}
use Rattle.gf_replay.specs.declared.reading_error.LineCause.{LineCause}
use Rattle.gf_replay.specs.declared.reading_error.LineCause.TheVariants as cause
use Rattle.gf_replay.specs.declared.reading_error.ReadingError.{ReadingError}
use Rattle.gf_replay.specs.declared.reading_error.ReadingError.TheVariants as reading
use Rattle.gf_edit.specs.declared.entries.Entry.{Entry}
use Rattle.gf_edit.specs.declared.entries.Entry.TheVariants as entry
use Rattle.gf_edit.specs.Entries.{entry_denoted}
use Rattle.gf_edit.specs.EditedText.{AreEntriesOf, ops_in}

-- the lines of the bytes before line n denote entries whose operations deliver a history, and this
-- is line n
pub record IsAtLine (s : ℕ) (bytes : List ℕ) (n : ℕ) (line : List ℕ) : Type 0 where
  pub before : List (ℕ × List ℕ)
  pub after : List (ℕ × List ℕ)
  pub whole : numbered_lines bytes ≡ before ++ (n, line) ∷ after
  pub entries : List (ℕ × Entry)
  pub lines : AreEntriesOf s before entries
  pub history : List Op
  pub delivers : Delivers (ops_in entries) history

-- the line denotes another operation under the id of one of these operations
pub record IsClashingLine (s : ℕ) (ops : List Op) (line : List ℕ) : Type 0 where
  pub op : Op
  pub denotes : entry_denoted s line ≡ Ok (entry.Operation op)
  pub other : HasOther ops op

-- what is wrong with a line behind the lines of these operations
abbrev pub IsEntryFault : ℕ → List Op → List ℕ → LineCause → Type 0
IsEntryFault s ops text cause.Json = entry_denoted s text ≡ Err line.Json
IsEntryFault s ops text cause.Field = entry_denoted s text ≡ Err line.Field
IsEntryFault s ops text cause.Range = entry_denoted s text ≡ Err line.Range
IsEntryFault s ops text cause.Clash = IsClashingLine s ops text

-- line n is the first that denotes no entry, or another operation under an earlier id, for this
-- cause
pub record HasLineFault (s : ℕ) (bytes : List ℕ) (n : ℕ) (cause : LineCause) : Type 0 where
  pub line : List ℕ
  pub at : IsAtLine s bytes n line
  pub fault : IsEntryFault s (ops_in at.entries) line cause

-- with some line, the operation under this id is ready behind a delivery of the operations so far.
-- What they deliver is a valid history, to which the operation cannot be added, for this fault
pub record DropsAt (s : ℕ) (bytes : List ℕ) (id : OpId) (fault : OpFault) : Type 0 where
  pub number : ℕ
  pub line : List ℕ
  pub at : IsAtLine s bytes number line
  pub last : Op
  pub denotes : entry_denoted s line ≡ Ok (entry.Operation last)
  pub one : AreOneById (ops_in at.entries ++ last ∷ [])
  pub history : List Op
  pub delivery : IsDelivery (ops_in at.entries ++ last ∷ []) history
  pub valid : IsValid history
  pub op : Op
  pub there : Contains (ops_in at.entries ++ last ∷ []) op
  pub named : op.id ≡ id
  pub ready : IsReady history op
  pub refused : IsRefused history op fault

-- why the lines of the bytes were not read; want of memory may come with any
abbrev pub RefusesEntries : ℕ → List ℕ → ReadingError → Type 0
RefusesEntries s bytes (reading.Line n why) = HasLineFault s bytes n why
RefusesEntries s bytes (reading.Dropped id fault) = DropsAt s bytes id fault
RefusesEntries s bytes reading.OutOfMemory = ⊤
