-- What is told of lines: nothing, or all of their faults (this project's choice).
use Rattle.std.specs.Prelude.{◌≡◌, ◌≢◌, ◌<◌, ◌⊎◌, ℕ, List, [], ◌∷◌, Contains, AllPairs, Option}
use Rattle.std.specs.Prelude.{Ok, Err, ⊤}
use Rattle.gf_streams.specs.TextLines.{numbered_lines}
use Rattle.gf_ops.specs.declared.op.Op.{Op}
use Rattle.gf_ops.specs.declared.op.OpId.{OpId}
use Rattle.gf_ops.specs.declared.faults.OpFault.{OpFault}
use Rattle.gf_ops.specs.ValidHistory.{IsValid}
use Rattle.gf_causal.specs.Ready.{NoneIsReady}
use Rattle.gf_json.specs.declared.line_error.LineError.{LineError}
use Rattle.gf_replay.specs.declared.reading_error.LineCause.TheVariants as cause
use Rattle.gf_replay.specs.declared.reading_error.ReadingError.{ReadingError}
use Rattle.gf_replay.specs.declared.reading_error.ReadingError.TheVariants as reading
use Rattle.gf_replay.specs.Taking.{HasOrHolds, of_line}
use Rattle.gf_site.specs.ReplicaState.{ReplicaState}
use Rattle.gf_edit.specs.declared.entries.Entry.TheVariants as entry
use Rattle.gf_check.specs.FaultLines.{Told, IsOnOneLine, errors, told_text}
use Rattle.gf_edit.specs.Entries.{denoted_by}
use Rattle.gf_check.specs.CheckedText.{DenotesSome, RefusesChecked}
use Rattle.gf_check.specs.TrueFaults.{IsDenotedBy, IsTrueOf}

-- the error is a fault of the input, and no want of memory
abbrev pub IsInputFault : ReadingError → Type 0
IsInputFault reading.OutOfMemory = ⊥
IsInputFault other = ⊤

-- the bytes denote no history because of this fault
pub record IsFaultOf (editor : Option ℕ) (bytes : List ℕ) (e : ReadingError) : Type 0 where
  pub fault : IsInputFault e
  pub refuses : RefusesChecked editor bytes e

-- each of these lines that denotes nothing is told
abbrev pub TellsEach : Option ℕ → List (ℕ × List ℕ) → List Told → Type 0
TellsEach editor lines told = (n : ℕ) (line : List ℕ) (e : LineError)
    → Contains lines (n, line) → denoted_by editor line ≡ Err e
    → Contains (errors told) (of_line n e)

-- it is told that an operation under the id i doesn't fit
abbrev pub TellsDropped : List Told → OpId → Type 0
TellsDropped told i = (why : OpFault) × Contains (errors told) (reading.Dropped i why)

-- it is told that line n has another operation under the id i, or that one under i doesn't fit
abbrev pub TellsOp : List Told → ℕ → OpId → Type 0
TellsOp told n i = Contains (errors told) (reading.Line n cause.Clash) ⊎ TellsDropped told i

-- each operation that a line denotes is told, or the replica has or holds it
abbrev pub KeepsOrTells : Option ℕ → List (ℕ × List ℕ) → List Told → ReplicaState
    → Type 0
KeepsOrTells editor lines told x = (n : ℕ) (line : List ℕ) (a : Op) → Contains lines (n, line)
    → denoted_by editor line ≡ Ok (entry.Operation a) → HasOrHolds x a ⊎ TellsOp told n a.id

-- operations with equal ids that the replica has or holds are equal
abbrev pub HasOneById : ReplicaState → Type 0
HasOneById x = (a b : Op) → HasOrHolds x a → HasOrHolds x b → a.id ≡ b.id → a ≡ b

-- the operations that are not told: a replica has them in a valid history, or holds them until they
-- are ready. It has and holds only what a line denotes
pub record KeepsUntold (editor : Option ℕ) (lines : List (ℕ × List ℕ)) (told : List Told)
    : Type 0 where
  pub replica : ReplicaState
  pub valid : IsValid replica.ops
  pub none : NoneIsReady replica.ops replica.held
  pub one : HasOneById replica
  pub all : KeepsOrTells editor lines told replica
  pub denoted : (a : Op) → HasOrHolds replica a → IsDenotedBy editor lines a

-- each fault that is told is one that the lines have
abbrev pub TellsTrue : Option ℕ → List (ℕ × List ℕ) → List Told → Type 0
TellsTrue editor lines told = (e : ReadingError) → Contains (errors told) e
    → IsTrueOf editor lines e

-- where both are faults of lines, the second line comes later
abbrev pub RisesTo : ReadingError → ReadingError → Type 0
RisesTo (reading.Line m first) (reading.Line n second) = m < n
RisesTo e f = ⊤

-- the numbers of the lines that are told rise
abbrev pub TellsRising : List Told → Type 0
TellsRising told = AllPairs RisesTo (errors told)

-- no fault is told twice
abbrev pub TellsOnceEach : List Told → Type 0
TellsOnceEach told = AllPairs (λ e f. e ≢ f) (errors told)

-- each explanation stands on one line
abbrev pub TellsOnLines : List Told → Type 0
TellsOnLines told = (t : Told) → Contains told t → IsOnOneLine t.why

-- the text has a line for each of these faults. For the first one the bytes denote no history.
-- Each line that denotes nothing is told, and each operation that is not told is kept. Each fault
-- that is told is true. The lines that are told rise, and no fault is told twice
pub record TellsFaults (editor : Option ℕ) (bytes text : List ℕ) : Type 0 where
  pub first : Told
  pub others : List Told
  pub is : text ≡ told_text (first ∷ others)
  pub refuses : IsFaultOf editor bytes first.error
  pub each : TellsEach editor (numbered_lines bytes) (first ∷ others)
  pub kept : KeepsUntold editor (numbered_lines bytes) (first ∷ others)
  pub only : TellsTrue editor (numbered_lines bytes) (first ∷ others)
  pub rises : TellsRising (first ∷ others)
  pub once : TellsOnceEach (first ∷ others)
  pub plain : TellsOnLines (first ∷ others)

-- the text is what is told of the bytes: nothing where they denote a history, or their faults
pub data AnswersText (editor : Option ℕ) (bytes text : List ℕ) : Type 0 where
  nothing : text ≡ [] → DenotesSome editor bytes → AnswersText editor bytes text
  faults : TellsFaults editor bytes text → AnswersText editor bytes text
