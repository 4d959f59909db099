-- Counts of failures, which stay at the greatest `u64` (this project's choice).
use Rattle.std.specs.Prelude.{◌≡◌, ℕ, ◌+◌, ◌-◌, ◌^◌, ◌<◌, min, Result}
use Rattle.std.specs.Prelude.{IsErrOf, MatchResult}

-- one more than n, up to the greatest count
abbrev pub raised : ℕ → ℕ
raised n = min (n + 1) (2 ^ 64 - 1)

-- an error raises the count from old to new, and else it stays
abbrev pub CountsFailure : {T E : Type 0} → ℕ → ℕ → Result T E → Type 0
CountsFailure old new result = MatchResult result (λ _. new ≡ old) (λ _. new ≡ raised old)

-- the error e raises the count from old to new, and else it stays
abbrev pub CountsFailureAt : {T E : Type 0} → E → ℕ → ℕ → Result T E → Type 0
CountsFailureAt e old new result =
    (IsErrOf result e → new ≡ raised old) × ((IsErrOf result e → ⊥) → new ≡ old)

-- the count rose from old to new, unless old is the greatest
abbrev pub Rises : ℕ → ℕ → Type 0
Rises old new = old < 2 ^ 64 - 1 → old < new
