-- What the lines so far make of a replica. No public clause cites this module.
use Rattle.std.specs.Prelude.{◌≡◌, ℕ, List, ◌++◌, ⊤}
use Rattle.gf_streams.specs.TextLines.{numbered_lines}
use Rattle.gf_ops.specs.declared.op.Op.{Op}
use Rattle.gf_causal.specs.Ready.{NoneIsReady}
use Rattle.gf_site.specs.ReplicaState.{ReplicaState}
use Rattle.gf_replay.specs.declared.reading_error.ReadingError.{ReadingError}
use Rattle.gf_replay.specs.declared.reading_error.ReadingError.TheVariants as reading
use Rattle.gf_replay.specs.Denoting.{AreLinesOf}
use Rattle.gf_replay.specs.Taking.{DropsReady, HasTaken}

-- the lines before those that are left denote operations. The replica has taken the known ones and
-- these, and no held one is ready
pub record HasRead (known : List Op) (bytes : List ℕ) (left : List (ℕ × List ℕ))
    (x : ReplicaState) : Type 0 where
  pub before : List (ℕ × List ℕ)
  pub whole : numbered_lines bytes ≡ before ++ left
  pub ops : List Op
  pub lines : AreLinesOf before ops
  pub taken : HasTaken (known ++ ops) x
  pub none : NoneIsReady x.ops x.held

-- why a replica does not step until none is ready
abbrev pub RefusesStepping : ReplicaState → ReadingError → Type 0
RefusesStepping x (reading.Dropped id fault) = DropsReady x id fault
RefusesStepping x reading.OutOfMemory = ⊤
RefusesStepping x other = ⊥
