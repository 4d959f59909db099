-- What an answer about bytes that were read whole tells of them and of their source.
use Rattle.std.specs.Prelude.{IfErr, IfOk, IfSome, None, Option, Some}
use Rattle.std.proofs.Common.{◌≡◌, ◌≢◌, List, ℕ, Result, Ok, Err, subst}
use Rattle.gf_streams.specs.declared.source.Source.{Ghosts as Source}
use Rattle.gf_run.specs.declared.studio_error.StudioError.{StudioError}
use Rattle.gf_run.specs.declared.studio_error.StudioError.TheVariants as studio
use Rattle.gf_run.specs.RefusedRuns.{IsBetween}
use Rattle.gf_run.specs.RunAnswers.{ReadsAll, ReadsInput, ReadsUntil}

-- what holds of the bytes that were read holds of those that were left before
pub left_ok : {T : Type 0} (left : Option (List ℕ)) (bytes : List ℕ) (P : List ℕ → T → Type 0)
    (r : Result T StudioError) → IfSome left (λ all. bytes ≡ all) → IfOk r (P bytes)
    → IfOk r (λ t. IfSome left (λ all. P all t))
left_ok None bytes P (Ok t) e held = tt
left_ok (Some all) bytes P (Ok t) e held = subst (λ b. P b t) e held
left_ok left bytes P (Err x) e held = tt

pub left_refuses : {T : Type 0} (left : Option (List ℕ)) (bytes : List ℕ) (P : List ℕ → StudioError
    → Type 0) (r : Result T StudioError) → IfSome left (λ all. bytes ≡ all) → IfErr r (P bytes)
    → IfErr r (λ e. IfSome left (λ all. P all e))
left_refuses left bytes P (Ok t) e refused = tt
left_refuses None bytes P (Err x) e refused = tt
left_refuses (Some all) bytes P (Err x) e refused = subst (λ b. P b x) e refused

unwritten_error : (e : StudioError) → IsBetween e → e ≢ studio.WriteFailed
unwritten_error studio.WriteFailed r w = r
unwritten_error studio.ReadFailed r w = r
unwritten_error studio.TooLong r w = r
unwritten_error (studio.Line n cause) r w = cc
unwritten_error (studio.Dropped id fault) r w = cc
unwritten_error (studio.Fig e) r w = cc
unwritten_error (studio.Compile fault) r w = cc
unwritten_error (studio.NoObject o) r w = cc
unwritten_error studio.OutOfMemory r w = cc

pub unwritten : {T : Type 0} (r : Result T StudioError) → IfErr r IsBetween
    → IfErr r (λ e. e ≢ studio.WriteFailed)
unwritten (Ok t) between = tt
unwritten (Err e) between = unwritten_error e between

-- where all was read, an answer about what was read says so
module _ {R : Type 0} (source : Source R) (old new : R) where
  reads_until : ReadsAll source old new → (e : StudioError) → IsBetween e
      → ReadsUntil source old new e
  reads_until all (studio.Line n cause) b = all
  reads_until all (studio.Dropped id fault) b = all
  reads_until all (studio.Fig e) b = all
  reads_until all (studio.Compile fault) b = all
  reads_until all (studio.NoObject o) b = all
  reads_until all studio.OutOfMemory b = all.unfailed
  reads_until all studio.ReadFailed b = absurd b
  reads_until all studio.TooLong b = absurd b
  reads_until all studio.WriteFailed b = absurd b

  pub reads_on : {T X : Type 0} (t : T) (r : Result X StudioError)
      → ReadsInput source old new (Ok t) → IfErr r IsBetween → ReadsInput source old new r
  reads_on t (Ok x) read between = record {
    came = read.came;
    takes = read.takes;
    reads = read.reads;
  }
  reads_on t (Err e) read between = record {
    came = reads_until read.came e between;
    takes = read.takes;
    reads = read.reads;
  }
