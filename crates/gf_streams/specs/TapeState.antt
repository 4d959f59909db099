-- A tape as its callers see it (this project's choice).
use Rattle.std.specs.Prelude.{◌≡◌, ℕ, ◌+◌, ◌-◌, ◌<◌, ◌≤◌, ◌⊎◌, min}
use Rattle.std.specs.Prelude.{Bool, false, List, [], length, Option, None, Some}

-- the bytes taken, the limit, the number of failures, whether the tape is flushed, and its memory
-- in bytes
pub record TapeState : Type 0 where
  pub bytes : List ℕ
  pub limit : Option ℕ
  pub failures : ℕ
  pub flushed : Bool
  pub capacity : ℕ

-- the tape under limit that was not called yet
abbrev pub empty : Option ℕ → TapeState
empty limit = record { bytes = []; limit = limit; failures = 0; flushed = false; capacity = 0 }

-- how many of n bytes fit beside held others under limit, if there is one
abbrev pub fitting_under : Option ℕ → ℕ → ℕ → ℕ
fitting_under None held n = n
fitting_under (Some limit) held n = min n (limit - held)

-- how many of n bytes fit on the tape
abbrev pub fitting : TapeState → ℕ → ℕ
fitting tape n = fitting_under tape.limit (length tape.bytes) n

-- n is not 0, and none of n bytes fits on the tape
abbrev pub IsFull : TapeState → ℕ → Type 0
IsFull tape n = (0 < n) × (fitting tape n ≡ 0)

-- some of n bytes fit on the tape, unless n is 0, and it has memory for those that fit
abbrev pub CanTake : TapeState → ℕ → Type 0
CanTake tape n =
    ((n ≡ 0) ⊎ (0 < fitting tape n)) × (length tape.bytes + fitting tape n ≤ tape.capacity)
