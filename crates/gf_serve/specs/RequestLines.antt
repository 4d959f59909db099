-- Where a request begins and ends among the bytes that come (this project's choice).
use Rattle.std.specs.Prelude.{◌≡◌, ◌+◌, ◌<◌, ◌≤◌, ◌⊎◌, ◌∷◌, ◌++◌, List, ℕ, None, Option, Some}
use Rattle.std.specs.Prelude.{length, option_and_then, ⊤}
use Rattle.std.specs.List.{position}
use Rattle.serde_json.specs.Data.{Data}
use Rattle.gf_streams.specs.TextLines.{is_line_end}
use Rattle.gf_serve.specs.declared.asking.Task.{Task}
use Rattle.gf_serve.specs.declared.inbox.TheConstants.{MOST_LINE_BYTES}
use Rattle.gf_serve.specs.declared.serve_error.ServeError.{ServeError}
use Rattle.gf_serve.specs.declared.serve_error.ServeError.TheVariants as serve
use Rattle.gf_serve.specs.Requests.{asked, body_bytes, json}

-- a line of a request, without its end
pub record IsLine (line : List ℕ) : Type 0 where
  pub whole : position is_line_end line ≡ None
  pub short : length line ≤ MOST_LINE_BYTES

-- how many bytes stand behind a line, if it says that
abbrev pub count_behind : List ℕ → Option ℕ
count_behind line = option_and_then body_bytes (json line)

-- a line tells what it asks for, if that is a request, and that n bytes stand behind it
pub record Tells (line : List ℕ) (asks : Option Task) (n : ℕ) : Type 0 where
  pub value : Data
  pub is_json : json line ≡ Some value
  pub counts : body_bytes value ≡ Some n
  pub asks_is : asks ≡ asked value

-- the bytes are a line, its end and a body of as many bytes as the line says
pub record IsRawRequest (bytes : List ℕ) (asks : Option Task) (body : List ℕ) : Type 0 where
  pub line : List ℕ
  pub is_line : IsLine line
  pub tells : Tells line asks (length body)
  pub is : bytes ≡ line ++ 10 ∷ body

-- no line of a request ends among the first bytes, and they are more than one has
pub record BeginsLong (rest : List ℕ) : Type 0 where
  pub front : List ℕ
  pub behind : List ℕ
  pub begins : rest ≡ front ++ behind
  pub whole : position is_line_end front ≡ None
  pub long : length front ≡ MOST_LINE_BYTES + 1

-- the first line doesn't say how many bytes stand behind it
pub record BeginsUncounted (rest : List ℕ) : Type 0 where
  pub line : List ℕ
  pub behind : List ℕ
  pub begins : rest ≡ line ++ 10 ∷ behind
  pub is_line : IsLine line
  pub uncounted : count_behind line ≡ None

-- the bytes end before the line of a request does
pub record EndsInLine (rest : List ℕ) : Type 0 where
  pub some : 0 < length rest
  pub is_line : IsLine rest

-- the bytes end before there are as many behind the line as it says
pub record EndsInBody (rest : List ℕ) : Type 0 where
  pub line : List ℕ
  pub body : List ℕ
  pub is : rest ≡ line ++ 10 ∷ body
  pub is_line : IsLine line
  pub count : ℕ
  pub counts : count_behind line ≡ Some count
  pub fewer : length body < count

-- why no request is read of the rest; a source may fail, and memory be refused, with any
abbrev pub EndsRequests : List ℕ → ServeError → Type 0
EndsRequests rest serve.ReadFailed = ⊤
EndsRequests rest serve.OutOfMemory = ⊤
EndsRequests rest serve.CutOff = EndsInLine rest ⊎ EndsInBody rest
EndsRequests rest serve.NoRequest = BeginsLong rest ⊎ BeginsUncounted rest
EndsRequests rest other = ⊥
