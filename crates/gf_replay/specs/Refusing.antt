-- Which operation lines denote no history behind known operations: the first line at fault, or the
-- first operation that doesn't fit (this project's choice, over causal delivery).
use Rattle.std.specs.Prelude.{◌≡◌, ℕ, List, [], ◌∷◌, ◌++◌, Contains, Ok, Err, ⊤}
use Rattle.gf_streams.specs.TextLines.{numbered_lines}
use Rattle.gf_ops.specs.declared.op.Op.{Op}
use Rattle.gf_ops.specs.declared.op.OpId.{OpId}
use Rattle.gf_ops.specs.declared.faults.OpFault.{OpFault}
use Rattle.gf_ops.specs.Accepted.{IsRefused}
use Rattle.gf_ops.specs.ValidHistory.{IsValid}
use Rattle.gf_causal.specs.DeliveredPart.{AreOneById, IsDelivery}
use Rattle.gf_causal.specs.HeldOperations.{HasOther}
use Rattle.gf_causal.specs.Ready.{IsReady}
use Rattle.gf_json.specs.declared.line_error.LineError.TheVariants as line
use Rattle.gf_json.specs.OperationLines.{denoted}
use Rattle.gf_replay.specs.declared.reading_error.LineCause.{LineCause}
use Rattle.gf_replay.specs.declared.reading_error.LineCause.TheVariants as cause
use Rattle.gf_replay.specs.declared.reading_error.ReadingError.{ReadingError}
use Rattle.gf_replay.specs.declared.reading_error.ReadingError.TheVariants as reading
use Rattle.gf_replay.specs.Denoting.{AreLinesOf, Delivers}

-- the lines of the bytes before line number n denote operations. Behind the known ones they deliver
-- a history, and this is line n
pub record IsAt (known : List Op) (bytes : List ℕ) (n : ℕ) (line : List ℕ) : Type 0 where
  pub before : List (ℕ × List ℕ)
  pub behind : List (ℕ × List ℕ)
  pub whole : numbered_lines bytes ≡ before ++ (n, line) ∷ behind
  pub ops : List Op
  pub lines : AreLinesOf before ops
  pub history : List Op
  pub delivers : Delivers (known ++ ops) history

-- the line denotes another operation under the id of one of these operations
pub record IsClashing (ops : List Op) (line : List ℕ) : Type 0 where
  pub op : Op
  pub denotes : denoted line ≡ Ok op
  pub other : HasOther ops op

-- what is wrong with a line behind the lines of these operations
abbrev pub IsFault : List Op → List ℕ → LineCause → Type 0
IsFault ops text cause.Json = denoted text ≡ Err line.Json
IsFault ops text cause.Field = denoted text ≡ Err line.Field
IsFault ops text cause.Range = denoted text ≡ Err line.Range
IsFault ops text cause.Clash = IsClashing ops text

-- line n is the first that denotes no operation, or another one under an earlier id, for this cause
pub record HasFault (known : List Op) (bytes : List ℕ) (n : ℕ) (cause : LineCause) : Type 0 where
  pub line : List ℕ
  pub at : IsAt known bytes n line
  pub fault : IsFault (known ++ at.ops) line cause

-- what the known operations and the lines before some line deliver is a valid history. With that
-- line, the operation under this id is ready behind a delivery of the operations so far. It cannot
-- be added to the valid history of that delivery, for this fault
pub record Drops (known : List Op) (bytes : List ℕ) (id : OpId) (fault : OpFault) : Type 0 where
  pub number : ℕ
  pub line : List ℕ
  pub at : IsAt known bytes number line
  pub last : Op
  pub denotes : denoted line ≡ Ok last
  pub one : AreOneById ((known ++ at.ops) ++ last ∷ [])
  pub history : List Op
  pub delivery : IsDelivery ((known ++ at.ops) ++ last ∷ []) history
  pub valid : IsValid history
  pub op : Op
  pub there : Contains ((known ++ at.ops) ++ last ∷ []) op
  pub named : op.id ≡ id
  pub ready : IsReady history op
  pub refused : IsRefused history op fault

-- why the bytes denote no history behind the known operations; want of memory may come with any
abbrev pub RefusesText : List Op → List ℕ → ReadingError → Type 0
RefusesText known bytes (reading.Line n why) = HasFault known bytes n why
RefusesText known bytes (reading.Dropped id fault) = Drops known bytes id fault
RefusesText known bytes reading.OutOfMemory = ⊤
