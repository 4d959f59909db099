-- What a take wrote is what its words ask for.
use Rattle.std.specs.Prelude.{IfSome, None, Option, Some}
use Rattle.std.proofs.Common.{Bool, List, ℕ}
use Rattle.gf_take_run.specs.declared.taken.Taken.{Taken}
use Rattle.gf_take_run.specs.TakeRun.{WritesTake}
use Rattle.gf_command.specs.declared.answering.Outcome.TheVariants as outcome
use Rattle.gf_command.specs.declared.runs.Editor.{Editor}
use Rattle.gf_command.specs.declared.runs.Workers.{Workers}
use Rattle.gf_command.specs.declared.runs.Run.TheVariants.{Take}
use Rattle.gf_command.specs.Outcomes.{AnswersSo}
use Rattle.gf_command.specs.Outputs.{request_of}

pub take_answers : (left old new : Option (List ℕ)) (editor : Editor) (after : Option ℕ)
    (named : Bool) (workers : Workers) (taken : Taken)
    → IfSome left (λ bytes. WritesTake (request_of editor after named) bytes taken old new)
    → IfSome left (λ bytes.
    AnswersSo (outcome.Taken taken) (Take editor after named workers) bytes old new)
take_answers None old new editor after named workers taken w = tt
take_answers (Some bytes) old new editor after named workers taken w = (taken, w)
