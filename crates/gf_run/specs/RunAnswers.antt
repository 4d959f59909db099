-- What a run does to its source and leaves of its sink, by its answer (this project's choice).
use Rattle.std.specs.Prelude.{◌≡◌, ℕ, ◌+◌, ◌<◌, ◌≤◌, ◌⊎◌, List, length, Option, Some, IsTrue}
use Rattle.std.specs.Prelude.{IfSome, IfErr, OnOk, Err, Result, MatchOption, MatchResult}
use Rattle.std.specs.Io.KnownBytes.{Appends, IsAtEnd}
use Rattle.gf_streams.specs.declared.source.TheConstants.{MOST_INPUT_BYTES}
use Rattle.gf_streams.specs.Counts.{Rises, raised}
use Rattle.gf_streams.specs.Reads.{CamePast, ConsumesAtMost, ConsumesExactly}
use Rattle.gf_streams.specs.Taken.{AppendsPrefix}
use Rattle.gf_streams.specs.declared.source.Source.{Ghosts as Source}
use Rattle.gf_streams.specs.declared.sink.Sink.{Ghosts as Sink}
use Rattle.gf_run.specs.declared.studio_error.StudioError.{StudioError}
use Rattle.gf_run.specs.declared.studio_error.StudioError.TheVariants as studio

-- the most bytes of an input
abbrev pub most_input : ℕ
most_input = MOST_INPUT_BYTES

-- a run brings its source from old to new
module _ {R : Type 0} (source : Source R) (old new : R) where
  -- the whole input came, and no read failed
  pub record ReadsAll : Type 0 where
    pub within : IfSome (source.left old) (λ bytes. length bytes ≤ most_input)
    pub end : IsAtEnd (source.left new)
    pub unfailed : source.failures new ≡ source.failures old

  -- one read failed, the last one, and no more than an input came
  pub record FailsToRead : Type 0 where
    pub failed : source.failures new ≡ raised (source.failures old)
    pub rises : Rises (source.failures old) (source.failures new)
    pub not_past : ¬ (CamePast most_input (source.left old) (source.left new))

  -- there is more than an input, of which one byte came, and no read failed
  pub record ReadsTooMuch : Type 0 where
    pub longer : IfSome (source.left old) (λ bytes. most_input < length bytes)
    pub one_more : ConsumesExactly (most_input + 1) (source.left old) (source.left new)
    pub unfailed : source.failures new ≡ source.failures old

  -- what was read where a run is refused with this error
  abbrev pub ReadsUntil : StudioError → Type 0
  ReadsUntil studio.ReadFailed = FailsToRead
  ReadsUntil studio.TooLong = ReadsTooMuch
  ReadsUntil studio.OutOfMemory = source.failures new ≡ source.failures old
  ReadsUntil other = ReadsAll

  -- how far a run with this answer read: at most one byte past an input, in no more reads than
  -- that. `of` gives the errors that any run may have; with any other error all was read
  pub record ReadsInputBy {T E : Type 0} (of : E → Option StudioError) (result : Result T E)
      : Type 0 where
    pub came : MatchResult result (λ _. ReadsAll) (λ e. MatchOption (of e) ReadsAll ReadsUntil)
    pub takes : ConsumesAtMost (most_input + 1) (source.left old) (source.left new)
    pub reads : source.reads new ≤ source.reads old + (most_input + 1)

  -- the same where a run has no other errors than any run
  abbrev pub ReadsInput : {T : Type 0} → Result T StudioError → Type 0
  ReadsInput result = ReadsInputBy Some result

-- IsText says which texts may be written, and known bytes grow from old to new
module _ (IsText : List ℕ → Type 0) (old new : Option (List ℕ)) where
  -- they grow by such a text
  pub record WritesText : Type 0 where
    pub text : List ℕ
    pub is : IsText text
    pub written : Appends old new text

  -- they grow by a prefix, which may be none or all, of such a text
  pub record WritesPrefix : Type 0 where
    pub text : List ℕ
    pub is : IsText text
    pub written : AppendsPrefix old new text

-- the answer is that the sink failed
abbrev pub FailsToWrite : {T E : Type 0} → (E → Option StudioError) → Result T E → Type 0
FailsToWrite of result = MatchResult result (λ _. ⊥) (λ e. of e ≡ Some studio.WriteFailed)

-- a run brings its sink from old to new. IsText relates the bytes that were left in its source to
-- the texts that it may write
module _ {W : Type 0} (sink : Sink W) (left : Option (List ℕ)) (IsText : List ℕ → List ℕ → Type 0)
    (old new : W) where
  module _ {T E : Type 0} (of : E → Option StudioError) (result : Result T E) where
    -- success flushes the sink; where it failed, a prefix of the text is written
    pub record WritesOrFails : Type 0 where
      pub flushed : OnOk result (IsTrue (sink.flushed new))
      pub failed : FailsToWrite of result → Rises (sink.failures old) (sink.failures new)
      pub prefix : FailsToWrite of result
          → IfSome left (λ bytes. WritesPrefix (IsText bytes) (sink.taken old) (sink.taken new))

    -- and any other error leaves the sink as it was
    pub record LeavesSinkBy : Type 0 where
      pub writes : WritesOrFails
      pub unwritten : IfErr result (λ e. (new ≡ old) ⊎ (of e ≡ Some studio.WriteFailed))

  -- the same where a run has no other errors than any run
  abbrev pub LeavesSink : {T : Type 0} → Result T StudioError → Type 0
  LeavesSink result = LeavesSinkBy Some result

  -- the same of a picture, of which want of memory may leave a part as IsPart says
  pub record LeavesPicture {T : Type 0}
      (IsPart : List ℕ → Option (List ℕ) → Option (List ℕ) → Type 0)
      (result : Result T StudioError) : Type 0 where
    pub writes : WritesOrFails Some result
    pub memory : result ≡ Err studio.OutOfMemory → (new ≡ old)
        ⊎ IfSome left (λ bytes. IsPart bytes (sink.taken old) (sink.taken new))
    pub unwritten : IfErr result (λ e.
        (new ≡ old) ⊎ (e ≡ studio.WriteFailed) ⊎ (e ≡ studio.OutOfMemory))
