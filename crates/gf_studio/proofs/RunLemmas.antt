-- What refuses the function of a run refuses the run.
use Rattle.std.proofs.Common.{ℕ, Global, List, inl, inr, subst}
use Rattle.std.specs.Prelude.{◌⊎◌, Err, IfErr, IfSome, IsSomeAnd, None, Ok, Option, Result, Some}
use Rattle.std.specs.Prelude.{Vec}
use Rattle.gf_run.specs.declared.answering.Answer.{Answer}
use Rattle.gf_run.specs.declared.studio_error.StudioError.{StudioError}
use Rattle.gf_run.specs.declared.studio_error.StudioError.TheVariants as studio
use Rattle.gf_run.specs.Answers.{Refuses}
use Rattle.gf_run.specs.RefusedRuns.{IsOfRun}
use Rattle.gf_studio.specs.declared.inspecting.Query.{Query}
use Rattle.gf_studio.specs.RefusedRuns.{RefusesAnswer, RefusesLines}

-- what may refuse any run may refuse one that draws
pub any_refuses_lines : (bytes : List ℕ) (e : StudioError) → IsOfRun e → RefusesLines bytes e
any_refuses_lines bytes studio.ReadFailed r = r
any_refuses_lines bytes studio.TooLong r = r
any_refuses_lines bytes studio.OutOfMemory r = r
any_refuses_lines bytes studio.WriteFailed r = r
any_refuses_lines bytes (studio.Line n why) r = absurd r
any_refuses_lines bytes (studio.Dropped id fault) r = absurd r
any_refuses_lines bytes (studio.Fig x) r = absurd r
any_refuses_lines bytes (studio.Compile x) r = absurd r
any_refuses_lines bytes (studio.NoObject o) r = absurd r

-- what may refuse any run may refuse one that answers a query
pub any_refuses_answer : (query : Query) (bytes : List ℕ) (e : StudioError) → IsOfRun e
    → RefusesAnswer query bytes e
any_refuses_answer query bytes studio.ReadFailed r = r
any_refuses_answer query bytes studio.TooLong r = r
any_refuses_answer query bytes studio.OutOfMemory r = r
any_refuses_answer query bytes studio.WriteFailed r = r
any_refuses_answer query bytes (studio.Line n why) r = absurd r
any_refuses_answer query bytes (studio.Dropped id fault) r = absurd r
any_refuses_answer query bytes (studio.Fig x) r = absurd r
any_refuses_answer query bytes (studio.Compile x) r = absurd r
any_refuses_answer query bytes (studio.NoObject o) r = absurd r

-- Gives relates bytes to what they make, and refuses them as R says
module _ {A : Type 0} (Gives : Vec ℕ Global → Result (Answer A) StudioError → Type 0)
    (R : List ℕ → StudioError → Type 0)
    (tells : (given : Vec ℕ Global) (e : StudioError) → Gives given (Err e) → R given.items e)
    (any : (bytes : List ℕ) (e : StudioError) → IsOfRun e → R bytes e) where
  refuses_left : (left : Option (List ℕ)) (e : StudioError)
      → Refuses Gives left e ⊎ IsSomeAnd (Some e) IsOfRun → IfSome left (λ bytes. R bytes e)
  refuses_left None e r = tt
  refuses_left (Some bytes) e (inl r) = subst (λ b. R b e) r.bytes_are (tells r.given e r.gives)
  refuses_left (Some bytes) e (inr r) = any bytes e r

  pub run_refuses : {X : Type 0} (left : Option (List ℕ)) (r : Result X StudioError)
      → IfErr r (λ e. Refuses Gives left e ⊎ IsSomeAnd (Some e) IsOfRun)
      → IfErr r (λ e. IfSome left (λ bytes. R bytes e))
  run_refuses left (Ok x) f = tt
  run_refuses left (Err e) f = refuses_left left e f
