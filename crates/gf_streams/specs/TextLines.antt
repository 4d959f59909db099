-- The lines of a text, separated by LF and numbered from 1 (this project's choice).
use Rattle.std.specs.Prelude.{ℕ, Bool, not, ◌||◌, ◌==◌, List}
use Rattle.std.specs.List.{slice_split, enumerate_from, filter, list_all}

-- LF
abbrev pub is_line_end : ℕ → Bool
is_line_end b = b == 10

-- a line of blanks, tabs and CR alone, or an empty one
abbrev pub is_blank : List ℕ → Bool
is_blank line = list_all (λ b. b == 32 || b == 9 || b == 13) line

-- the lines of the text that are not blank, where its first line has the number n
abbrev pub numbered_from : ℕ → List ℕ → List (ℕ × List ℕ)
numbered_from n text =
    filter (λ line. not (is_blank line.1)) (enumerate_from n (slice_split is_line_end text))

-- the lines of the text that are not blank, each with its number
abbrev pub numbered_lines : List ℕ → List (ℕ × List ℕ)
numbered_lines text = numbered_from 1 text
