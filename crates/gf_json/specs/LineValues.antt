-- What is read of a line, or its fault (which fault comes first is this project's choice).
use Rattle.std.specs.Prelude.{Bool, Option, Some, None, Result, Ok, Err, if◌then◌else◌}
use Rattle.gf_json.specs.declared.line_error.LineError.{LineError}
use Rattle.gf_json.specs.declared.line_error.LineError.TheVariants as fault

-- what is read, or the fault
abbrev pub Got : Type 0 → Type 0
Got A = Result A LineError

-- what is read, mapped by f
abbrev pub mapped : {A B : Type 0} → (A → B) → Got A → Got B
mapped f (Ok a) = Ok (f a)
mapped f (Err e) = Err e

-- what `next` reads in what was read
abbrev pub and_then : {A B : Type 0} → (A → Got B) → Got A → Got B
and_then next (Ok a) = next a
and_then next (Err e) = Err e

-- what has its form, where it keeps the limits. A fault of form comes before those of limits
abbrev pub within : {A : Type 0} → (A → Bool) → Option A → Got A
within keeps None = Err fault.Field
within keeps (Some a) = if keeps a then Ok a else Err fault.Range
