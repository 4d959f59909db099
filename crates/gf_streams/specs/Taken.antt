-- What a sink took, and whether it was flushed since (this project's choice).
use Rattle.std.specs.Prelude.{◌≡◌, ℕ, ◌<◌, ◌≤◌, List, Option, Bool, true}
use Rattle.std.specs.Prelude.{◌&&◌, nat_eq, length, take, Result, MatchResult}
use Rattle.std.specs.Io.KnownBytes.{Appends}

-- known bytes grow from old to new by a prefix of bytes, which may be none or all
abbrev pub AppendsPrefix : Option (List ℕ) → Option (List ℕ) → List ℕ → Type 0
AppendsPrefix old new bytes = (n : ℕ) × (n ≤ length bytes) × Appends old new (take n bytes)

-- n bytes that were taken make new false, and none leave it as old
abbrev pub UnflushedBy : ℕ → Bool → Bool → Type 0
UnflushedBy n old new = new ≡ (old && nat_eq n 0)

-- a write that took bytes makes new false, and any other leaves it as old
abbrev pub Unflushes : {E : Type 0} → Bool → Bool → Result ℕ E → Type 0
Unflushes old new result = MatchResult result (λ n. UnflushedBy n old new) (λ _. new ≡ old)

-- a flush that succeeded makes new true, and any other leaves it as old
abbrev pub Flushes : {T E : Type 0} → Bool → Bool → Result T E → Type 0
Flushes old new result = MatchResult result (λ _. new ≡ true) (λ _. new ≡ old)

-- known bytes grow from old to new by a prefix of the bytes, but not all. That all was flushed held
-- before as `was` says, and holds afterwards as `is` says
pub record TakesPart (bytes : List ℕ) (old new : Option (List ℕ)) (was is : Bool) : Type 0 where
  pub count : ℕ
  pub fewer : count < length bytes
  pub grows : Appends old new (take count bytes)
  pub unflushes : UnflushedBy count was is
