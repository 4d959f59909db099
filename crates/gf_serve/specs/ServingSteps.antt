-- What a service did so far. No public clause cites this module.
use Rattle.std.specs.Prelude.{◌≡◌, ◌<◌, ℕ, List, Option, None, Some, codes, length, ⊤}
use Rattle.std.specs.Io.KnownBytes.{Appends, Consumes, Keeps as KeepsKnown}
use Rattle.gf_streams.specs.Taken.{AppendsPrefix}
use Rattle.gf_ops.specs.declared.op.Op.{Op}
use Rattle.gf_replay.specs.Behind.{HasDelivered}
use Rattle.gf_site.specs.ReplicaState.{ReplicaState}
use Rattle.gf_kept.specs.Keeping.{Keeps}
use Rattle.gf_status.specs.KeptStatuses.{AreKept}
use Rattle.gf_serve.specs.declared.kept.Kept.{Kept}
use Rattle.gf_serve.specs.declared.dialogue.RawRequest.{RawRequest}
use Rattle.gf_serve.specs.declared.serve_error.ServeError.{ServeError}
use Rattle.gf_serve.specs.declared.serve_error.ServeError.TheVariants as serve
use Rattle.gf_serve.specs.ReplyTexts.{refused_text}
use Rattle.gf_serve.specs.RequestLines.{IsRawRequest, count_behind}
use Rattle.gf_serve.specs.Serves.{Serves}
use Rattle.gf_serve.specs.Turns.{IsAnswered}

-- what is kept are visible versions and statuses of objects of h
pub record KeepsBoth (h : List Op) (kept : Kept) : Type 0 where
  pub versions : Keeps h kept.versions
  pub statuses : AreKept h kept.statuses

-- a read failed, or memory for what it gave was refused
abbrev pub IsReadFault : ServeError → Type 0
IsReadFault serve.ReadFailed = ⊤
IsReadFault serve.OutOfMemory = ⊤
IsReadFault other = ⊥

-- no request was read
abbrev pub IsUnread : ServeError → Type 0
IsUnread serve.WriteFailed = ⊥
IsUnread serve.TooMany = ⊥
IsUnread other = ⊤

-- why a line doesn't tell what it asks for
abbrev pub IsUntold : List ℕ → ServeError → Type 0
IsUntold line serve.NoRequest = count_behind line ≡ None
IsUntold line serve.OutOfMemory = ⊤
IsUntold line other = ⊥

-- why no body of n bytes is read of the rest
abbrev pub IsUnreadBody : ℕ → List ℕ → ServeError → Type 0
IsUnreadBody n rest serve.CutOff = length rest < n
IsUnreadBody n rest e = IsReadFault e

-- known bytes grow from old to new by what is written where no request is read
abbrev pub WritesFault : ServeError → Option (List ℕ) → Option (List ℕ) → Type 0
WritesFault serve.NoRequest old new = AppendsPrefix old new (refused_text (codes "no request"))
WritesFault other old new = KeepsKnown old new

-- a service that has this replica answers a request with this text
pub record AnswersRawRequest (known : List Op) (raw : RawRequest) (text : List ℕ) (x : ReplicaState)
    : Type 0 where
  pub next : List Op
  pub answered : IsAnswered known raw.asks raw.body.items text next
  pub delivered : HasDelivered next x

-- a request came of the known bytes between old and new
pub record TakesRawRequest (old new : Option (List ℕ)) (raw : RawRequest) : Type 0 where
  pub bytes : List ℕ
  pub is_raw : IsRawRequest bytes raw.asks raw.body.items
  pub takes : Consumes old new bytes

-- the first n requests were answered, by which known bytes grew from old to new, and then x is the
-- replica
pub record HasServed (all rest : List ℕ) (n : ℕ) (old new : Option (List ℕ)) (x : ReplicaState)
    : Type 0 where
  pub out : List ℕ
  pub known : List Op
  pub served : Serves all n out known rest
  pub delivered : HasDelivered known x
  pub written : Appends old new out

abbrev pub HasServedSome : Option (List ℕ) → Option (List ℕ) → ℕ → Option (List ℕ)
    → Option (List ℕ) → ReplicaState → Type 0
HasServedSome None left n old new x = ⊤
HasServedSome (Some all) None n old new x = ⊥
HasServedSome (Some all) (Some rest) n old new x = HasServed all rest n old new x
