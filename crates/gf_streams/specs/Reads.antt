-- What reads took from a source (this project's choice).
use Rattle.std.specs.Prelude.{◌≡◌, ℕ, ◌+◌, ◌<◌, ◌≤◌, List, ◌++◌, length}
use Rattle.std.specs.Prelude.{Option, None, Some}
use Rattle.std.specs.Io.KnownBytes.{Consumes, IsAtEnd}

-- at most `most` of the known bytes came between old and new
abbrev pub ConsumesAtMost : ℕ → Option (List ℕ) → Option (List ℕ) → Type 0
ConsumesAtMost most old new = (front : List ℕ) × (length front ≤ most)
    × Consumes old new front

-- n of the known bytes came between old and new
abbrev pub ConsumesExactly : ℕ → Option (List ℕ) → Option (List ℕ) → Type 0
ConsumesExactly n old new = (front : List ℕ) × (length front ≡ n) × Consumes old new front

-- some of the known bytes came between old and new, at most `most`
abbrev pub ConsumesSome : ℕ → Option (List ℕ) → Option (List ℕ) → Type 0
ConsumesSome most old new =
    (front : List ℕ) × (0 < length front) × (length front ≤ most) × Consumes old new front

-- more than `most` known bytes came between old and new
abbrev pub CamePast : ℕ → Option (List ℕ) → Option (List ℕ) → Type 0
CamePast most None new = ⊥
CamePast most (Some xs) None = ⊥
CamePast most (Some xs) (Some ys) = length ys + most < length xs

-- held grew by n of the known bytes that came between old and new, by none only at their end
pub record ReadsOn (old new : Option (List ℕ)) (held grown : List ℕ) (n : ℕ) : Type 0 where
  pub front : List ℕ
  pub count : length front ≡ n
  pub grows : grown ≡ held ++ front
  pub takes : Consumes old new front
  pub end : n ≡ 0 → IsAtEnd new
