-- The first line of a text, and the lines behind it.
use Rattle.std.proofs.Common.{◌≡◌, ℕ, ◌+◌, ◌-◌, ◌<◌, ◌≤◌, List, [], ◌∷◌, length, take, drop, refl}
use Rattle.std.proofs.Common.{arith, inl, inr}
use Rattle.std.specs.Prelude.{not}
use Rattle.std.specs.List.{slice_split, position_or_len, before_first, after_first, filter}
use Rattle.std.specs.List.{enumerate_from}
use Rattle.std.proofs.lemmas.Bool.{cases_Bool}
use Rattle.std.proofs.lemmas.List.{take_rest}
use Rattle.std.proofs.lemmas.List.Splits.{slice_split_first, slice_split_none}
use Rattle.std.proofs.lemmas.List.Sums.{fails_before_first}
use Rattle.gf_streams.specs.TextLines.{is_line_end, is_blank, numbered_from}
use Rattle.gf_streams.specs.LineCutting.{with_line}

-- lines with numbers from n, without the blank ones
numbered : ℕ → List (List ℕ) → List (ℕ × List ℕ)
numbered n lines = filter (λ l. not (is_blank l.1)) (enumerate_from n lines)

-- a line, then the others
numbered-cons : (n : ℕ) (line : List ℕ) (lines : List (List ℕ))
    → numbered n (line ∷ lines) ≡ with_line n line (numbered (n + 1) lines)
unfolding numbered
numbered-cons n line lines = elim (cases_Bool (is_blank line)) [
  | inl b ↦ rw b refl
  | inr b ↦ rw b refl
]

-- a text with an LF
pub numbered_from-cut : (text : List ℕ) (n k : ℕ) → k ≡ position_or_len is_line_end text
    → k < length text
    → numbered_from n text ≡ with_line n (take k text)
    (numbered_from (n + 1) (take (length text - (k + 1)) (drop (k + 1) text)))
unfolding numbered
numbered_from-cut text n k e h =
    let s = slice_split_first is_line_end text 0 (rw (← e) h) in
    rw (take_rest, e, s) (numbered-cons n (before_first is_line_end text)
    (slice_split is_line_end (after_first is_line_end text)))

-- a text without one
pub numbered_from-whole : (text : List ℕ) (n : ℕ) → length text ≤ position_or_len is_line_end text
    → numbered_from n text ≡ with_line n text []
unfolding numbered
numbered_from-whole text n h =
    let s : slice_split is_line_end text ≡ text ∷ [] = slice_split_none is_line_end text
    (λ i d l. fails_before_first is_line_end text i d (omega arith)) in
    rw s (numbered-cons n text [])

pub ruleset cuts = (numbered_from-cut, numbered_from-whole)
