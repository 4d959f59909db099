-- What a service writes to the requests of its input (this project's choice).
use Rattle.std.specs.Prelude.{◌≡◌, ◌+◌, ◌-◌, ◌^◌, ℕ, List, [], ◌++◌, Option}
use Rattle.std.specs.Io.KnownBytes.{Appends, Keeps}
use Rattle.gf_ops.specs.declared.op.Op.{Op}
use Rattle.gf_serve.specs.declared.asking.Task.{Task}
use Rattle.gf_serve.specs.declared.serve_error.ServeError.{ServeError}
use Rattle.gf_serve.specs.declared.serve_error.ServeError.TheVariants as serve
use Rattle.gf_serve.specs.RequestLines.{IsRawRequest}
use Rattle.gf_serve.specs.Turns.{IsAnswered, LeavesTurn}

-- n requests, which are all before the rest, were answered by out, and these operations are known
-- then
pub data Serves (all : List ℕ) : ℕ → List ℕ → List Op → List ℕ → Type 0 where
  begun : Serves all 0 [] [] all
  answered : {n : ℕ} {out : List ℕ} {known : List Op} {rest : List ℕ} (bytes : List ℕ)
      (asks : Option Task) (body text : List ℕ) (next : List Op)
      → Serves all n out known (bytes ++ rest) → IsRawRequest bytes asks body
      → IsAnswered known asks body text next → Serves all (n + 1) (out ++ text) next rest

-- all requests of the input are answered, and known bytes grow from old to new by the answers
pub record AnswersAll (all : List ℕ) (old new : Option (List ℕ)) : Type 0 where
  pub count : ℕ
  pub out : List ℕ
  pub known : List Op
  pub served : Serves all count out known []
  pub written : Appends old new out

-- why a service ends behind its first n requests: there are no more numbers, or as a turn ends
abbrev pub EndsService : ℕ → List Op → List ℕ → Option (List ℕ) → Option (List ℕ) → ServeError
    → Type 0
EndsService n known rest old new serve.TooMany = (n ≡ 2 ^ 64 - 1) × Keeps old new
EndsService n known rest old new e = LeavesTurn known rest old new e

-- the first requests of the input are answered, by which known bytes grow from old to mid, and what
-- ended the service then brought them to new
pub record AnswersFirst (all : List ℕ) (old new : Option (List ℕ)) (e : ServeError) : Type 0 where
  pub count : ℕ
  pub out : List ℕ
  pub known : List Op
  pub rest : List ℕ
  pub served : Serves all count out known rest
  pub mid : Option (List ℕ)
  pub written : Appends old mid out
  pub ended : EndsService count known rest mid new e
