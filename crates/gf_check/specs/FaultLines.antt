-- The lines that tell faults: where one is, which it is, and why (this project's choice).
use Rattle.std.specs.Prelude.{ℕ, List, ◌++◌, Contains, codes, flat_map, map}
use Rattle.std.specs.Fmt.{decimal}
use Rattle.gf_ops.specs.IdText.{id_text}
use Rattle.gf_ops.specs.FaultWords.{fault_word}
use Rattle.gf_replay.specs.CauseWords.{cause_word}
use Rattle.gf_replay.specs.declared.reading_error.ReadingError.{ReadingError}
use Rattle.gf_replay.specs.declared.reading_error.ReadingError.TheVariants as reading

-- where a fault is, and which one it is
abbrev pub fault_head : ReadingError → List ℕ
fault_head (reading.Line n why) = codes "line " ++ decimal n ++ codes ": " ++ cause_word why
fault_head (reading.Dropped i why) =
    codes "operation " ++ id_text i ++ codes ": " ++ fault_word why
fault_head reading.OutOfMemory = codes "out of memory"

-- the line that tells a fault and explains it by the text `why`
abbrev pub told_line : ReadingError → List ℕ → List ℕ
told_line e why = fault_head e ++ codes ": " ++ why ++ codes "\n"

-- a fault, and the text that explains it
pub record Told : Type 0 where
  pub error : ReadingError
  pub why : List ℕ

-- the text has no line end
abbrev pub IsOnOneLine : List ℕ → Type 0
IsOnOneLine text = ¬ (Contains text 10)

-- the faults that are told
abbrev pub errors : List Told → List ReadingError
errors told = map (λ (t : Told). t.error) told

-- a line for each fault, in their order
abbrev pub told_text : List Told → List ℕ
told_text told = flat_map (λ (t : Told). told_line t.error t.why) told
