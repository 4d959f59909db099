-- A request: a line of JSON, and behind it as many bytes as it says (RFC 8259 by serde_json's
-- value; the keys are this project's choice).
use Rattle.std.specs.Prelude.{ℕ, ◌+◌, ◌==◌, Bool, true, false, ◌&&◌, List}
use Rattle.std.specs.Prelude.{Option, Some, None, cond, codes, if◌then◌else◌, is_some, nat_le}
use Rattle.std.specs.Prelude.{option_and_then, option_map, ⊤}
use Rattle.std.specs.Str.{is_utf8}
use Rattle.serde_json.specs.Data.{Data}
use Rattle.serde_json.specs.Find.{as_bool, as_number, as_object, as_u64, get}
use Rattle.serde_json.specs.Read.{read}
use Rattle.gf_json.specs.LineKeys.{has_count, says}
use Rattle.gf_json.specs.declared.notation.Notation.{Notation}
use Rattle.gf_json.specs.declared.notation.Notation.TheVariants as notation
use Rattle.gf_streams.specs.declared.source.TheConstants.{MOST_INPUT_BYTES}
use Rattle.gf_ops.specs.OperationOrder.{IsSite}
use Rattle.gf_serve.specs.declared.asking.Task.{Task}
use Rattle.gf_serve.specs.declared.asking.Task.TheVariants as ask

-- the value of a line, if it is JSON
abbrev pub json : List ℕ → Option Data
json line = if is_utf8 line then read line else None

-- the number n, where it is one from low to high
abbrev pub within : ℕ → ℕ → Option ℕ → Option ℕ
within low high None = None
within low high (Some n) = if nat_le low n && nat_le n high then Some n else None

-- the number of a value, where it is one from low to high
abbrev pub between : ℕ → ℕ → Data → Option ℕ
between low high d = within low high (option_and_then as_u64 (as_number d))

-- the number of bytes, or 0 where there is no such key
abbrev pub bytes_of : Option Data → Option ℕ
bytes_of None = Some 0
bytes_of (Some d) = between 0 MOST_INPUT_BYTES d

-- how many bytes stand behind the line of this value: as many as it says, or none
abbrev pub body_bytes : Data → Option ℕ
body_bytes d = option_and_then (λ ms. bytes_of (get (codes "bytes") d)) (as_object d)

-- how many members there are at a key
abbrev pub present : List ℕ → Data → ℕ
present key d = cond (is_some (get key d)) 1 0

-- whether true stands at a key; false where there is no such key
abbrev pub flag_of : Option Data → Option Bool
flag_of None = Some false
flag_of (Some d) = as_bool d

abbrev pub flag_at : List ℕ → Data → Option Bool
flag_at key d = flag_of (get key d)

-- the site at its key
abbrev pub site_at : Data → Option ℕ
site_at d = option_and_then (between 1 8) (get (codes "site") d)

-- a number up to 10,000, or none where there is no such key
abbrev pub after_of : Option Data → Option (Option ℕ)
after_of None = Some None
after_of (Some d) = option_map Some (between 0 10000 d)

abbrev pub after_at : Data → Option (Option ℕ)
after_at d = after_of (get (codes "after") d)

-- a take by these, where all are there
abbrev pub take_by : Option ℕ → Option (Option ℕ) → Option Bool → Option Task
take_by (Some s) (Some n) (Some b) =
    Some (ask.Take (record { site = s; after = n; named = b }))
take_by s n b = None

-- where a take is asked for, its site is one
abbrev pub HasSite : Task → Type 0
HasSite (ask.Take q) = IsSite q.site
HasSite other = ⊤

-- a line that asks for a take has no key but its own
abbrev pub is_take : Data → Bool
is_take d =
    let optional = present (codes "after") d + present (codes "named") d in
    has_count (2 + present (codes "bytes") d + optional) (as_object d)

abbrev pub take_of : Data → Option Task
take_of d =
    if is_take d then take_by (site_at d) (after_at d) (flag_at (codes "named") d) else None

abbrev pub lines_of : Data → Option Task
lines_of d =
    if has_count (1 + present (codes "bytes") d) (as_object d) then Some ask.Lines else None

-- nothing stands behind the line
abbrev pub is_none_behind : Option ℕ → Bool
is_none_behind None = false
is_none_behind (Some n) = n == 0

abbrev pub is_bare : Data → Bool
is_bare d = is_none_behind (body_bytes d)

abbrev pub named_of : Data → Option Task
named_of d =
    if has_count (1 + present (codes "bytes") d) (as_object d) && is_bare d then Some ask.Named
    else None

-- JSON where that is asked for
abbrev pub notation_of : Bool → Notation
notation_of true = notation.Json
notation_of false = notation.Words

-- a line that asks for a status has no key but its own, and nothing behind it
abbrev pub is_status : Data → Bool
is_status d =
    has_count (1 + present (codes "bytes") d + present (codes "json") d) (as_object d) && is_bare d

abbrev pub status_of : Data → Option Task
status_of d =
    if is_status d then option_map (λ b. ask.Status (notation_of b)) (flag_at (codes "json") d)
    else None

-- what the line of a value asks for, if that is a request
abbrev pub asked : Data → Option Task
asked d =
    if says (codes "do") (codes "lines") d then lines_of d
    else (if says (codes "do") (codes "take") d then take_of d
    else (if says (codes "do") (codes "named") d then named_of d
    else (if says (codes "do") (codes "status") d then status_of d
    else None)))
