-- What the run of a status writes (this project's choice).
use Rattle.std.specs.Prelude.{◌≡◌, ℕ, List, Option}
use Rattle.gf_json.specs.declared.notation.Notation.{Notation}
use Rattle.gf_json.specs.declared.notation.Notation.TheVariants.{Json, Words}
use Rattle.gf_ops.specs.declared.op.Op.{Op}
use Rattle.gf_replay.specs.Waiting.{DenotesWaiting}
use Rattle.gf_run.specs.RunAnswers.{WritesText}
use Rattle.gf_status.specs.declared.objects.ObjectStatus.{ObjectStatus}
use Rattle.gf_status.specs.declared.state.State.{State}
use Rattle.gf_status.specs.ObjectStatuses.{AreStatuses}
use Rattle.gf_status.specs.StatusJson.{status_json}
use Rattle.gf_status.specs.StatusLines.{state_of, status_text}

-- the text of a status in this notation
abbrev pub status_in : Notation → List Op → List Op → List ObjectStatus → List ℕ
status_in Words h waiting ss = status_text h waiting ss
status_in Json h waiting ss = status_json h waiting ss (state_of waiting ss)

-- the text and the state are those of the history h and of what waits behind h
pub record TellsStatus (notation : Notation) (h waiting : List Op) (text : List ℕ)
    (state : State) : Type 0 where
  pub objects : List ObjectStatus
  pub statuses : AreStatuses h objects
  pub text_is : text ≡ status_in notation h waiting objects
  pub state_is : state ≡ state_of waiting objects

-- the text and the state are those of the history that the bytes denote, and of the other
-- operations
pub record DenotesStatus (notation : Notation) (bytes text : List ℕ) (state : State) : Type 0 where
  pub history : List Op
  pub waiting : List Op
  pub denoted : DenotesWaiting bytes history waiting
  pub tells : TellsStatus notation history waiting text state

-- known bytes grow from old to new by the status of what the bytes denote
abbrev pub WritesStatus : Notation → List ℕ → State → Option (List ℕ) → Option (List ℕ) → Type 0
WritesStatus notation bytes state old new =
    WritesText (λ text. DenotesStatus notation bytes text state) old new

-- the text is the status of what the bytes denote
abbrev pub IsStatusOf : Notation → List ℕ → List ℕ → Type 0
IsStatusOf notation bytes text = (state : State) × DenotesStatus notation bytes text state
