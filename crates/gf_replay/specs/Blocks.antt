-- What the lines of a block read as. No public clause cites this module.
use Rattle.std.specs.Prelude.{◌≡◌, ◌⊎◌, ℕ, List, [], ◌∷◌, Err, IfOk, IfErr, Result, drop, length, ⊤}
use Rattle.std.specs.List.{AllZip}
use Rattle.gf_ops.specs.Limits.{IsInRange}
use Rattle.gf_ops.specs.declared.op.Op.{Op}
use Rattle.gf_json.specs.OperationLines.{denoted}
use Rattle.gf_json.specs.declared.line_error.LineError.TheVariants as fault
use Rattle.gf_site.specs.ReplicaState.{ReplicaState}
use Rattle.gf_replay.specs.declared.blocks.Reading.{Reading}
use Rattle.gf_replay.specs.declared.reading_error.ReadingError.{ReadingError}
use Rattle.gf_site.specs.Growth.{Grows}
use Rattle.gf_replay.specs.LineSteps.{HasRead}
use Rattle.gf_replay.specs.Refusing.{RefusesText}

-- the reading has the line's number, and what the line denotes, or memory ran out
pub record IsReading (line : ℕ × List ℕ) (reading : Reading) : Type 0 where
  pub number : reading.number ≡ line.0
  pub denoted : (reading.op ≡ Err fault.OutOfMemory) ⊎ (reading.op ≡ denoted line.1)
  pub in_range : IfOk reading.op (λ op. IsInRange op)

-- the readings are those of the lines, in their order
abbrev pub AreReadings : List (ℕ × List ℕ) → List Reading → Type 0
AreReadings lines readings = AllZip IsReading lines readings

-- the readings are those of the first of the lines, in their order
abbrev pub AreFirstReadings : List (ℕ × List ℕ) → List Reading → Type 0
AreFirstReadings lines [] = ⊤
AreFirstReadings [] (r ∷ rs) = ⊥
AreFirstReadings (l ∷ ls) (r ∷ rs) = IsReading l r × AreFirstReadings ls rs

-- the readings are those of the first of some lines
pub record AreOfLines (readings : List Reading) : Type 0 where
  pub lines : List (ℕ × List ℕ)
  pub first : AreFirstReadings lines readings

-- the readings are those of the first of the lines, and of some unless there are none; behind these
-- come the others
pub record IsBlock (lines : List (ℕ × List ℕ)) (readings : List Reading)
    (others : List (ℕ × List ℕ)) : Type 0 where
  pub first : AreFirstReadings lines readings
  pub behind : others ≡ drop (length readings) lines
  pub none : length readings ≡ 0 → lines ≡ []

-- all lines before those of the readings were taken, and behind these come the others
pub record IsBefore (known : List Op) (text : List ℕ) (readings : List Reading)
    (others : List (ℕ × List ℕ)) (x : ReplicaState) : Type 0 where
  pub lines : List (ℕ × List ℕ)
  pub read : HasRead known text lines x
  pub first : AreFirstReadings lines readings
  pub behind : others ≡ drop (length readings) lines

-- the replica takes what was read, or refuses it
pub record TakesBlock (readings : List Reading) (x : ReplicaState)
    (result : Result ReplicaState ReadingError) : Type 0 where
  pub ok : (known : List Op) (text : List ℕ) (others : List (ℕ × List ℕ))
      → IsBefore known text readings others x → IfOk result (HasRead known text others)
  pub err : (known : List Op) (text : List ℕ) (others : List (ℕ × List ℕ))
      → IsBefore known text readings others x → IfErr result (RefusesText known text)
  pub grows : IfOk result (λ y. Grows x.ops y.ops)
