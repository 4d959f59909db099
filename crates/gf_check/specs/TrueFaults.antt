-- When lines have a fault that is told of them (this project's choice, over causal delivery).
use Rattle.std.specs.Prelude.{◌≡◌, ◌≢◌, ℕ, List, ◌∷◌, ◌++◌, Contains, Ok, Err, Option}
use Rattle.gf_ops.specs.declared.op.Op.{Op}
use Rattle.gf_ops.specs.declared.op.OpId.{OpId}
use Rattle.gf_ops.specs.declared.faults.OpFault.{OpFault}
use Rattle.gf_ops.specs.Accepted.{IsRefused}
use Rattle.gf_ops.specs.ValidHistory.{IsValid}
use Rattle.gf_causal.specs.Ready.{IsReady}
use Rattle.gf_json.specs.declared.line_error.LineError.{LineError}
use Rattle.gf_json.specs.declared.line_error.LineError.TheVariants as line
use Rattle.gf_replay.specs.declared.reading_error.LineCause.TheVariants as cause
use Rattle.gf_replay.specs.declared.reading_error.ReadingError.{ReadingError}
use Rattle.gf_replay.specs.declared.reading_error.ReadingError.TheVariants as reading
use Rattle.gf_edit.specs.declared.entries.Entry.TheVariants as entry
use Rattle.gf_edit.specs.Entries.{denoted_by}

-- one of these lines denotes the operation a
pub record IsDenotedBy (editor : Option ℕ) (lines : List (ℕ × List ℕ)) (a : Op) : Type 0 where
  pub number : ℕ
  pub text : List ℕ
  pub there : Contains lines (number, text)
  pub denotes : denoted_by editor text ≡ Ok (entry.Operation a)

-- line n denotes nothing, and this is its first fault
pub record HasLineError (editor : Option ℕ) (lines : List (ℕ × List ℕ)) (n : ℕ) (e : LineError)
    : Type 0 where
  pub text : List ℕ
  pub there : Contains lines (n, text)
  pub fault : denoted_by editor text ≡ Err e

-- line n denotes an operation, and an earlier line denotes another one under the same id
pub record Clashes (editor : Option ℕ) (lines : List (ℕ × List ℕ)) (n : ℕ) : Type 0 where
  pub before : List (ℕ × List ℕ)
  pub text : List ℕ
  pub after : List (ℕ × List ℕ)
  pub whole : lines ≡ before ++ (n, text) ∷ after
  pub op : Op
  pub denotes : denoted_by editor text ≡ Ok (entry.Operation op)
  pub first : Op
  pub earlier : IsDenotedBy editor before first
  pub id : first.id ≡ op.id
  pub differs : first ≢ op

-- of the operations P, one under the id i is ready behind a valid history of others, which refuses
-- it for this fault
pub record RefusesAmong (P : Op → Type 0) (i : OpId) (why : OpFault) : Type 0 where
  pub history : List Op
  pub valid : IsValid history
  pub of_these : (a : Op) → Contains history a → P a
  pub op : Op
  pub one : P op
  pub named : op.id ≡ i
  pub ready : IsReady history op
  pub refused : IsRefused history op why

-- the lines have this fault
abbrev pub IsTrueOf : Option ℕ → List (ℕ × List ℕ) → ReadingError → Type 0
IsTrueOf editor lines (reading.Line n cause.Json) = HasLineError editor lines n line.Json
IsTrueOf editor lines (reading.Line n cause.Field) = HasLineError editor lines n line.Field
IsTrueOf editor lines (reading.Line n cause.Range) = HasLineError editor lines n line.Range
IsTrueOf editor lines (reading.Line n cause.Clash) = Clashes editor lines n
IsTrueOf editor lines (reading.Dropped i why) = RefusesAmong (IsDenotedBy editor lines) i why
IsTrueOf editor lines reading.OutOfMemory = ⊥
