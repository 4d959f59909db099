-- The line of a FIG text on which each of its tokens stands (lines counted from 1, comments among
-- them; this project's choice).
use Rattle.std.specs.Prelude.{ℕ, ◌+◌, not, List, map, filter, flat_map, drop}
use Rattle.std.specs.List.{enumerate_from}
use Rattle.gf_fig_tokens.specs.Layout.{is_comment, lines, words}

-- the lines of a text that are no comments, each with its number, where n lines stand before them
abbrev pub plain_behind : ℕ → List ℕ → List (ℕ × List ℕ)
plain_behind n text = filter (λ line. not (is_comment line.1)) (enumerate_from (n + 1) (lines text))

-- the lines after the first that are no comments, each with its number
abbrev pub numbered_plain_lines : List ℕ → List (ℕ × List ℕ)
numbered_plain_lines text =
    filter (λ line. not (is_comment line.1)) (drop 1 (enumerate_from 1 (lines text)))

-- the number of a line, once for each token of the line
abbrev pub repeated_number : ℕ × List ℕ → List ℕ
repeated_number line = map (λ token. line.0) (words line.1)

-- the line of each token behind the header, one after another
abbrev pub token_lines : List ℕ → List ℕ
token_lines text = flat_map repeated_number (drop 7 (numbered_plain_lines text))
