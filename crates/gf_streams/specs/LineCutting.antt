-- The first line of a text before the lines behind it. No public clause cites this module.
use Rattle.std.specs.Prelude.{◌≡◌, ℕ, ◌+◌, ◌-◌, ◌<◌, ◌≤◌, ◌^◌}
use Rattle.std.specs.Prelude.{◌⊎◌, List, [], ◌∷◌, length, take, drop}
use Rattle.std.specs.Prelude.{if◌then◌else◌}
use Rattle.gf_streams.specs.TextLines.{is_blank, numbered_from}

-- a line before the others, unless it is blank
abbrev pub with_line : ℕ → List ℕ → List (ℕ × List ℕ) → List (ℕ × List ℕ)
with_line n line others = if is_blank line then others else (n, line) ∷ others

-- the text is empty, or its prefix of this size is the first line not blank, of number n
pub record IsAtSomeLine (text : List ℕ) (n size : ℕ) : Type 0 where
  pub within : size ≤ length text
  pub few : n + length text < 2 ^ 64
  pub lines : (text ≡ []) ⊎ (numbered_from n text
      ≡ (n, take size text) ∷ numbered_from (n + 1) (drop (size + 1) text))

-- the text begins at line n; its first line that is not blank is `line`, with number m. `from` is
-- the text from that line on
pub record IsNextLine (n : ℕ) (text : List ℕ) (m : ℕ) (line from : List ℕ) : Type 0 where
  pub lines : numbered_from n text ≡ numbered_from m from
  pub first : numbered_from m from
      ≡ (m, line) ∷ numbered_from (m + 1) (drop (length line + 1) from)
  pub front : line ≡ take (length line) from
  pub within : length line ≤ length from
  pub behind : from ≡ drop (length text - length from) text
  pub few : m + length from ≤ n + length text

-- line n is at this place; the first line not blank begins at `start`, with number m and this size
pub record AreLinesAt (text : List ℕ) (from n m start size : ℕ) : Type 0 where
  pub lines : numbered_from n (drop from text) ≡ numbered_from m (drop start text)
  pub within : start ≤ length text
  pub stands : IsAtSomeLine (drop start text) m size
