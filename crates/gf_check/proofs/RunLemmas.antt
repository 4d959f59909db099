-- What a check's function makes of the bytes is what its run writes and answers.
use Rattle.std.proofs.Common.{ℕ, Global, List, subst}
use Rattle.std.specs.Prelude.{Err, IfOk, IfSome, None, Ok, Option, Result, Some, Vec}
use Rattle.gf_run.specs.declared.answering.Answer.{Answer}
use Rattle.gf_run.specs.declared.studio_error.StudioError.{StudioError}
use Rattle.gf_run.specs.Answers.{WritesAnswer}
use Rattle.gf_check.specs.declared.checks.Verdict.{Verdict}
use Rattle.gf_check.specs.CheckRun.{Checks, WritesCheck}

-- Gives relates bytes to what they make, which is what a check tells of them
module _ (Gives : Vec ℕ Global → Result (Answer Verdict) StudioError → Type 0) (s : Option ℕ)
    (tells : (given : Vec ℕ Global) (a : Answer Verdict) → Gives given (Ok a)
    → Checks s given.items a.value a.text.items) where
  pub run_writes : (left old new : Option (List ℕ)) (r : Result Verdict StudioError)
      → IfOk r (λ v. WritesAnswer Gives left v old new)
      → IfOk r (λ v. IfSome left (λ bytes. WritesCheck s bytes v old new))
  run_writes left old new (Err e) w = tt
  run_writes None old new (Ok v) w = tt
  run_writes (Some bytes) old new (Ok v) w =
      let text = w.answer.text.items in
      record {
        text = text;
        is = subst (λ b. Checks s b v text) w.bytes_are
            (subst (λ x. Checks s w.given.items x text) w.value_is (tells w.given w.answer w.gives));
        written = w.written;
      }
