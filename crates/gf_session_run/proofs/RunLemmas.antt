-- A run of so many sites as a session may have is not refused for them.
use Rattle.std.specs.Prelude.{◌⊎◌, ◌≢◌, Err, IfErr, IsSomeAnd, Ok, Option, Result, Vec, ⊤}
use Rattle.std.proofs.Common.{ℕ, Global, List, inl, inr}
use Rattle.gf_session.specs.declared.session.SessionError.TheVariants as session
use Rattle.gf_run.specs.declared.answering.Answer.{Answer}
use Rattle.gf_run.specs.Answers.{Refuses}
use Rattle.gf_run.specs.RefusedRuns.{IsOfRun}
use Rattle.gf_session_run.specs.SessionRun.{IsSiteCount, RefusesSession, of_session}
use Rattle.gf_session_run.specs.declared.session_run_error.SessionRunError.{SessionRunError}
use Rattle.gf_session_run.specs.declared.session_run_error.SessionRunError.TheVariants as run

-- Gives relates bytes to what they make, and refuses them as a session is refused
module _ (Gives : Vec ℕ Global → Result (Answer ⊤) SessionRunError → Type 0) (n : ℕ)
    (tells : (given : Vec ℕ Global) (e : SessionRunError) → Gives given (Err e)
    → RefusesSession n given.items e) (left : Option (List ℕ)) where
  pub run_counts : {X : Type 0} (r : Result X SessionRunError) → IsSiteCount n
      → IfErr r (λ e. Refuses Gives left e ⊎ IsSomeAnd (of_session e) IsOfRun)
      → r ≢ Err (run.Session session.Sites)
  run_counts (Ok x) count f e = absurd cc
  run_counts (Err (run.Run x)) count f e = absurd cc
  run_counts (Err (run.Session session.OutOfMemory)) count f e = absurd cc
  run_counts (Err (run.Session session.Sites)) count (inl r) e = tells r.given _ r.gives count
  run_counts (Err (run.Session session.Sites)) count (inr r) e = r
