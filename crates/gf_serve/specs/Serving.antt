-- What a service answers behind the operations that it was given, each request as the command of
-- its name (this project's choice).
use Rattle.std.specs.Prelude.{◌≡◌, ℕ, ◌+◌, List, ◌++◌, length, ⊤}
use Rattle.gf_streams.specs.TextLines.{numbered_lines}
use Rattle.gf_ops.specs.declared.op.Op.{Op}
use Rattle.gf_json.specs.declared.notation.Notation.{Notation}
use Rattle.gf_fig_named.specs.NamedText.{IsNamedText}
use Rattle.gf_fig_named.specs.ThinPolygons.{AreThinOf}
use Rattle.gf_replay.specs.Behind.{Divides, HasDelivered}
use Rattle.gf_replay.specs.Denoting.{AreLinesOf, Delivers}
use Rattle.gf_replay.specs.Refusing.{Drops, HasFault}
use Rattle.gf_run.specs.declared.answering.Answer.{Answer}
use Rattle.gf_run.specs.declared.studio_error.StudioError.{StudioError}
use Rattle.gf_run.specs.declared.studio_error.StudioError.TheVariants as studio
use Rattle.gf_site.specs.ReplicaState.{ReplicaState}
use Rattle.gf_status.specs.declared.state.State.{State}
use Rattle.gf_status.specs.StatusRun.{TellsStatus}
use Rattle.gf_studio.specs.declared.naming.NamedRun.{NamedRun}
use Rattle.gf_studio.specs.FigRun.{RefusesHistory}
use Rattle.gf_take_run.specs.declared.take_run_error.TakeRunError.{TakeRunError}
use Rattle.gf_take_run.specs.declared.take_run_error.TakeRunError.TheVariants as refused
use Rattle.gf_take_run.specs.declared.taken.Taken.{Taken}
use Rattle.gf_take_run.specs.Parting.{BeginsFig}
use Rattle.gf_take_run.specs.TakeRun.{RefusesFigText}
use Rattle.gf_take_run.specs.TakenBehind.{TakesBehind}
use Rattle.gf_serve.specs.declared.reply.Arrival.{Arrival}
use Rattle.gf_serve.specs.declared.reply.Refusal.TheVariants as refusal
use Rattle.gf_serve.specs.declared.reply.Reply.{Reply}
use Rattle.gf_serve.specs.declared.reply.Reply.TheVariants as reply
use Rattle.gf_serve.specs.declared.request.Request.{Request}
use Rattle.gf_serve.specs.declared.request.Request.TheVariants as request
use Rattle.gf_serve.specs.declared.request.TakeText.{TakeText}

-- so many operations came that were not there before, and so many wait now
pub record Counts (known next : List Op) (came : Arrival) : Type 0 where
  pub before : List Op
  pub waited : List Op
  pub was : Divides known before waited
  pub history : List Op
  pub waiting : List Op
  pub is : Divides next history waiting
  pub new : came.new + (length before + length waited) ≡ length history + length waiting
  pub wait : came.waiting ≡ length waiting

-- the lines denote operations, which join the known ones
pub record TakesLines (known : List Op) (bytes : List ℕ) (came : Arrival) (next : List Op)
    : Type 0 where
  pub ops : List Op
  pub lines : AreLinesOf (numbered_lines bytes) ops
  pub joined : next ≡ known ++ ops
  pub counts : Counts known next came

-- why lines are not taken behind the known operations; want of memory may come with any
abbrev pub RefusesLines : List Op → List ℕ → StudioError → Type 0
RefusesLines known bytes (studio.Line n why) = HasFault known bytes n why
RefusesLines known bytes (studio.Dropped id fault) = Drops known bytes id fault
RefusesLines known bytes studio.OutOfMemory = ⊤
RefusesLines known bytes other = ⊥

-- a site takes new operations of the FIG text behind the known ones, which they join
pub record JoinsTake (known : List Op) (t : TakeText) (answer : Answer Taken) (next : List Op)
    : Type 0 where
  pub history : List Op
  pub new : List Op
  pub takes : TakesBehind t.request known history t.fig.items new answer
  pub joined : next ≡ known ++ new

-- why no operations are taken of the FIG text
abbrev pub RefusesTake : List Op → TakeText → TakeRunError → Type 0
RefusesTake known t refused.NoDrawing = ¬ (BeginsFig t.fig.items 0)
RefusesTake known t e = RefusesFigText t.request known t.fig.items e

-- the known operations deliver a history of which this holds
pub record DeliversSuch (known : List Op) (IsSuch : List Op → Type 0) : Type 0 where
  pub history : List Op
  pub delivers : Delivers known history
  pub such : IsSuch history

-- the text is the named one of the history that the known operations deliver; of that is told how
-- many operations wait, and which polygons xfig does not keep
pub record TellsNamed (known : List Op) (answer : Answer NamedRun) : Type 0 where
  pub history : List Op
  pub waiting : List Op
  pub divided : Divides known history waiting
  pub text : IsNamedText history answer.text.items
  pub thin : AreThinOf history answer.value.thin.items
  pub wait : answer.value.waiting ≡ length waiting

-- why there is no named text
abbrev pub RefusesNamed : List Op → StudioError → Type 0
RefusesNamed known (studio.Compile fault) = DeliversSuch known (λ h. RefusesHistory h fault)
RefusesNamed known studio.OutOfMemory = ⊤
RefusesNamed known other = ⊥

-- the text is the status of the history that the known operations deliver, and of what waits
pub record TellsState (known : List Op) (notation : Notation) (answer : Answer State) : Type 0 where
  pub history : List Op
  pub waiting : List Op
  pub divided : Divides known history waiting
  pub tells : TellsStatus notation history waiting answer.text.items answer.value

-- the request is answered so behind the known operations, and next are those that are known then
abbrev pub Answers : List Op → Request → Reply → List Op → Type 0
Answers known (request.Lines text) (reply.Lines came) next = TakesLines known text.items came next
Answers known (request.Lines text) (reply.Refused (refusal.Run e)) next =
    RefusesLines known text.items e × (next ≡ known)
Answers known (request.Take t) (reply.Taken answer) next = JoinsTake known t answer next
Answers known (request.Take t) (reply.Refused (refusal.Take e)) next =
    RefusesTake known t e × (next ≡ known)
Answers known request.Named (reply.Named answer) next = TellsNamed known answer × (next ≡ known)
Answers known request.Named (reply.Refused (refusal.Run e)) next =
    RefusesNamed known e × (next ≡ known)
Answers known (request.Status notation) (reply.Status answer) next =
    TellsState known notation answer × (next ≡ known)
Answers known (request.Status notation) (reply.Refused (refusal.Run e)) next =
    (e ≡ studio.OutOfMemory) × (next ≡ known)
Answers known asked answer next = ⊥

-- so answered, a service has the next operations
pub record AnswersNext (known : List Op) (asked : Request) (answer : Reply) (x : ReplicaState)
    : Type 0 where
  pub next : List Op
  pub answers : Answers known asked answer next
  pub delivered : HasDelivered next x
