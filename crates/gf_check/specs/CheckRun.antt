-- What the checking run answers and writes (this project's choice).
use Rattle.std.specs.Prelude.{◌≡◌, ℕ, List, [], Option}
use Rattle.gf_check.specs.AllFaults.{TellsFaults}
use Rattle.gf_check.specs.CheckedText.{DenotesSome}
use Rattle.gf_run.specs.RunAnswers.{WritesText}
use Rattle.gf_check.specs.declared.checks.Verdict.{Verdict}
use Rattle.gf_check.specs.declared.checks.Verdict.TheVariants.{Clean, Faulty}

-- the text is what is told of the bytes where this is answered. Nothing is told of a history; else
-- the faults are told, of which the first refuses the bytes
abbrev pub Checks : Option ℕ → List ℕ → Verdict → List ℕ → Type 0
Checks editor bytes Clean text = (text ≡ []) × DenotesSome editor bytes
Checks editor bytes Faulty text = TellsFaults editor bytes text

-- known bytes grow from old to new by the text that is told of the bytes where this is answered
abbrev pub WritesCheck : Option ℕ → List ℕ → Verdict → Option (List ℕ) → Option (List ℕ)
    → Type 0
WritesCheck editor bytes verdict old new = WritesText (Checks editor bytes verdict) old new
