-- What has its form, and within it what keeps the limits. No public clause cites this module.
use Rattle.std.specs.Prelude.{ℕ, Bool, ◌&&◌, nat_le, IsTrue, Option, Some, None, Ok, Err}
use Rattle.std.specs.Prelude.{if◌then◌else◌}
use Rattle.std.specs.Option.{ok_or}
use Rattle.gf_json.specs.declared.line_error.LineError.TheVariants as fault
use Rattle.gf_json.specs.LineValues.{Got, and_then}

-- a, if it keeps the limits
abbrev pub kept : {A : Type 0} → (A → Bool) → A → Option A
kept keeps a = if keeps a then Some a else None

-- what has its form, if it keeps the limits
abbrev pub limited : {A : Type 0} → (A → Bool) → Option A → Got (Option A)
limited keeps None = Err fault.Field
limited keeps (Some a) = Ok (kept keeps a)

-- what is read, where a broken limit is a fault
abbrev pub ranged : {A : Type 0} → Got (Option A) → Got A
ranged read = and_then (λ o. ok_or o fault.Range) read

-- n is a number from low to high
abbrev pub is_between : ℕ → ℕ → ℕ → Bool
is_between low high n = nat_le low n && nat_le n high

-- it has its form, and keeps the limits
abbrev pub IsKept : {A : Type 0} → (A → Bool) → Option A → Type 0
IsKept keeps None = ⊥
IsKept keeps (Some a) = IsTrue (keeps a)
