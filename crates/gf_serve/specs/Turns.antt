-- What one turn of a service reads and writes (this project's choice).
use Rattle.std.specs.Prelude.{◌≡◌, ◌⊎◌, ℕ, List, [], ◌++◌, Option, None, Some, codes, ⊤}
use Rattle.std.specs.Io.KnownBytes.{Appends, Consumes, IsAtEnd, Keeps}
use Rattle.gf_streams.specs.Taken.{AppendsPrefix}
use Rattle.gf_ops.specs.declared.op.Op.{Op}
use Rattle.gf_replay.specs.Behind.{HasDelivered}
use Rattle.gf_site.specs.ReplicaState.{ReplicaState}
use Rattle.gf_serve.specs.declared.asking.Task.{Task}
use Rattle.gf_serve.specs.declared.asking.Task.TheVariants as ask
use Rattle.gf_serve.specs.declared.dialogue.Turn.{Turn}
use Rattle.gf_serve.specs.declared.dialogue.Turn.TheVariants as turn
use Rattle.gf_serve.specs.declared.reply.Reply.{Reply}
use Rattle.gf_serve.specs.declared.request.Request.{Request}
use Rattle.gf_serve.specs.declared.request.Request.TheVariants as request
use Rattle.gf_serve.specs.declared.serve_error.ServeError.{ServeError}
use Rattle.gf_serve.specs.declared.serve_error.ServeError.TheVariants as serve
use Rattle.gf_serve.specs.ReplyTexts.{IsReplyText, refused_text}
use Rattle.gf_serve.specs.RequestLines.{EndsRequests, IsRawRequest}
use Rattle.gf_serve.specs.Serving.{Answers}

-- a service that answers requests: its replica, and the bytes that came behind the last request
pub record DialogueState : Type 0 where
  pub replica : ReplicaState
  pub ahead : List ℕ

-- the request that is asked for, with this body
abbrev pub IsRequest : Task → List ℕ → Request → Type 0
IsRequest ask.Lines body (request.Lines text) = text.items ≡ body
IsRequest (ask.Take q) body (request.Take t) = (t.request ≡ q) × (t.fig.items ≡ body)
IsRequest ask.Named body request.Named = ⊤
IsRequest (ask.Status n) body (request.Status m) = m ≡ n
IsRequest asks body other = ⊥

-- a request that is asked for so is answered by the text
pub record AnswersAsked (known : List Op) (asks : Task) (body text : List ℕ) (next : List Op)
    : Type 0 where
  pub request : Request
  pub is_request : IsRequest asks body request
  pub reply : Reply
  pub answers : Answers known request reply next
  pub written : IsReplyText reply text

-- what is asked for, if that is a request, is answered by the text behind the known operations;
-- next are those that are known then
abbrev pub IsAnswered : List Op → Option Task → List ℕ → List ℕ → List Op → Type 0
IsAnswered known (Some asks) body text next = AnswersAsked known asks body text next
IsAnswered known None body text next =
    (text ≡ refused_text (codes "no such request")) × (next ≡ known)

-- of the known bytes that came one request is used, the known bytes that were written grow by its
-- answer, and then x is the replica
pub record AnswersRequest (known : List Op) (unread left old new : Option (List ℕ))
    (x : ReplicaState) : Type 0 where
  pub bytes : List ℕ
  pub asks : Option Task
  pub body : List ℕ
  pub is_raw : IsRawRequest bytes asks body
  pub used : Consumes unread left bytes
  pub text : List ℕ
  pub next : List Op
  pub answered : IsAnswered known asks body text next
  pub written : Appends old new text
  pub delivered : HasDelivered next x

-- a turn answers one request, or the bytes that came have ended and nothing is written
abbrev pub TakesTurn : List Op → Turn → Option (List ℕ) → Option (List ℕ) → Option (List ℕ)
    → Option (List ℕ) → ReplicaState → Type 0
TakesTurn known turn.Answered unread left old new x = AnswersRequest known unread left old new x
TakesTurn known turn.Ended unread left old new x =
    IsAtEnd unread × Appends old new [] × HasDelivered known x

-- the text answers the request that the rest begins with
pub record AnswersOne (known : List Op) (rest text : List ℕ) : Type 0 where
  pub bytes : List ℕ
  pub behind : List ℕ
  pub begins : rest ≡ bytes ++ behind
  pub asks : Option Task
  pub body : List ℕ
  pub is_raw : IsRawRequest bytes asks body
  pub next : List Op
  pub answered : IsAnswered known asks body text next

-- a turn writes the answer to the request that the rest begins with, or nothing at its end
abbrev pub IsTurnText : List Op → List ℕ → List ℕ → Type 0
IsTurnText known rest text = AnswersOne known rest text ⊎ ((rest ≡ []) × (text ≡ []))

-- why a turn ends without its answer, and what it has written: a prefix of the answer where the
-- sink failed, a refusal or a prefix of it where no request begins, and else nothing
abbrev pub LeavesTurn : List Op → List ℕ → Option (List ℕ) → Option (List ℕ) → ServeError → Type 0
LeavesTurn known rest old new serve.WriteFailed =
    (text : List ℕ) × IsTurnText known rest text × AppendsPrefix old new text
LeavesTurn known rest old new serve.NoRequest =
    EndsRequests rest serve.NoRequest × AppendsPrefix old new (refused_text (codes "no request"))
LeavesTurn known rest old new e = EndsRequests rest e × Keeps old new
