-- What is told of the lines so far. No public clause cites this module.
use Rattle.std.specs.Prelude.{◌≡◌, ◌<◌, ℕ, List, [], ◌∷◌, ◌++◌, Contains, Ok, Option, None, Some}
use Rattle.gf_streams.specs.TextLines.{numbered_lines}
use Rattle.gf_ops.specs.declared.op.Op.{Op}
use Rattle.gf_causal.specs.Ready.{NoneIsReady}
use Rattle.gf_site.specs.ReplicaState.{ReplicaState}
use Rattle.gf_replay.specs.declared.reading_error.LineCause.{LineCause}
use Rattle.gf_replay.specs.declared.reading_error.ReadingError.TheVariants as reading
use Rattle.gf_replay.specs.LineSteps as replay
use Rattle.gf_replay.specs.Taking.{HasOrHolds, KeepsAll, Offers}
use Rattle.gf_edit.specs.declared.entries.Entry.TheVariants as entry
use Rattle.gf_edit.specs.Entries.{denoted_by}
use Rattle.gf_edit.specs.EntrySteps.{HasReadEntries}
use Rattle.gf_check.specs.declared.telling.Telling.{Telling}
use Rattle.gf_check.specs.FaultLines.{Told, errors}
use Rattle.gf_check.specs.TrueFaults.{IsDenotedBy}
use Rattle.gf_check.specs.AllFaults.{HasOneById, IsFaultOf, KeepsOrTells, TellsEach, TellsOnceEach}
use Rattle.gf_check.specs.AllFaults.{TellsRising, TellsTrue}
use Rattle.gf_check.specs.Telling.{HasTold}

-- the lines before those that are left were taken without a fault, and no held one is ready
abbrev pub HasRead : Option ℕ → List ℕ → List (ℕ × List ℕ) → ReplicaState → Type 0
HasRead None bytes left x = replay.HasRead [] bytes left x
HasRead (Some s) bytes left x = HasReadEntries s bytes left x

-- the same of all lines before one. The operation of this one was then offered, and the replica x
-- has what it had
pub record HasOffered (editor : Option ℕ) (bytes : List ℕ) (left : List (ℕ × List ℕ))
    (x : ReplicaState) : Type 0 where
  pub number : ℕ
  pub text : List ℕ
  pub before : ReplicaState
  pub read : HasRead editor bytes ((number, text) ∷ left) before
  pub op : Op
  pub denotes : denoted_by editor text ≡ Ok (entry.Operation op)
  pub offered : ReplicaState
  pub offers : Offers before op offered
  pub keeps : KeepsAll offered x

-- the lines that are told rise, and no fault is told twice
pub record AreInOrder (told : List Told) : Type 0 where
  pub rises : TellsRising told
  pub once : TellsOnceEach told

-- each line that is told comes before line n
abbrev pub AreBefore : ℕ → List Told → Type 0
AreBefore n told = (m : ℕ) (why : LineCause) → Contains (errors told) (reading.Line m why)
    → m < n

-- the first fault that is told refuses the bytes; where none is told, another fact holds
abbrev pub BeginsWith : Type 0 → Option ℕ → List ℕ → List Told → Type 0
BeginsWith none editor bytes [] = none
BeginsWith none editor bytes (t ∷ ts) = IsFaultOf editor bytes t.error

-- what is told of the lines before those that are left, of whose operations x has or holds the
-- others; where nothing is told, another fact holds
pub record Tells (none : Type 0) (editor : Option ℕ) (bytes : List ℕ) (left : List (ℕ × List ℕ))
    (x : ReplicaState) (t : Telling) : Type 0 where
  pub told : List Told
  pub is : HasTold told t
  pub first : BeginsWith none editor bytes told
  pub before : List (ℕ × List ℕ)
  pub whole : numbered_lines bytes ≡ before ++ left
  pub each : TellsEach editor before told
  pub all : KeepsOrTells editor before told x
  pub denoted : (a : Op) → HasOrHolds x a → IsDenotedBy editor before a
  pub only : TellsTrue editor (numbered_lines bytes) told
  pub order : AreInOrder told
  pub below : (k : ℕ × List ℕ) → Contains left k → AreBefore k.0 told
  pub one : HasOneById x

-- behind the offer of a line's operation, while the replica steps
abbrev pub IsStepping : Option ℕ → List ℕ → List (ℕ × List ℕ) → ReplicaState → Telling → Type 0
IsStepping editor bytes left x t = Tells (HasOffered editor bytes left x) editor bytes left x t

-- between two lines, where no held operation is ready
pub record HasChecked (editor : Option ℕ) (bytes : List ℕ) (left : List (ℕ × List ℕ))
    (x : ReplicaState) (t : Telling) : Type 0 where
  pub tells : Tells (HasRead editor bytes left x) editor bytes left x t
  pub none : NoneIsReady x.ops x.held

-- with line n, all before those that are left were checked, if those before it were
abbrev pub GoesOn : Option ℕ → ℕ → List ℕ → ReplicaState → Telling → ReplicaState → Telling
    → Type 0
GoesOn editor n text x t y u = (bytes : List ℕ) (left : List (ℕ × List ℕ))
    → HasChecked editor bytes ((n, text) ∷ left) x t → HasChecked editor bytes left y u

-- and behind the offer of its operation, if this was offered
abbrev pub StepsOn : ReplicaState → Telling → ReplicaState → Telling → Type 0
StepsOn x t y u = (editor : Option ℕ) (bytes : List ℕ) (left : List (ℕ × List ℕ))
    → IsStepping editor bytes left x t → HasChecked editor bytes left y u
