-- A FIG text as first line, comment lines, header lines and tokens (Xfig, FIG Format 3.2). This
-- project's profile drops comment lines from the second line on, and lets header lines have any
-- text.
use Rattle.std.specs.Prelude.{ℕ, Bool, true, false, not, ◌&&◌, ◌||◌, ◌==◌, nat_eq}
use Rattle.std.specs.Prelude.{nat_lt, List, [], ◌∷◌, ◌++◌, length, filter, flat_map, drop}
use Rattle.std.specs.Prelude.{Result, Ok, Err, codes, if◌then◌else◌}
use Rattle.std.specs.List.{slice_split, onto_first, starts_with}
use Rattle.std.specs.Cmp.Lexicographic.{pointwise}
use Rattle.gf_fig_tokens.specs.declared.faults.FigFault.{FigFault}
use Rattle.gf_fig_tokens.specs.declared.faults.FigFault.TheVariants as fault

-- a word of the text, as its bytes
abbrev pub Token : Type 0
Token = List ℕ

-- byte b ends a line
abbrev pub is_line_feed : ℕ → Bool
is_line_feed b = b == 10

-- byte b stands between tokens: a blank, a tab, a carriage return or a line feed
abbrev pub is_space : ℕ → Bool
is_space b = b == 32 || b == 9 || b == 13 || b == 10

-- the lines of a text, without line feeds; text behind the last line feed is a line, too
abbrev pub lines : List ℕ → List (List ℕ)
lines [] = []
lines (b ∷ bs) = if is_line_feed b then [] ∷ lines bs else onto_first b (lines bs)

-- the line or word has a byte
abbrev pub is_filled : List ℕ → Bool
is_filled [] = false
is_filled (b ∷ bs) = true

-- the tokens of a line: what stands between blanks and is not empty
abbrev pub words : List ℕ → List Token
words line = filter is_filled (slice_split is_space line)

-- the first byte of the line is '#'
abbrev pub is_comment : List ℕ → Bool
is_comment line = starts_with nat_eq line (codes "#")

-- the lines that are no comments
abbrev pub plain : List (List ℕ) → List (List ℕ)
plain ls = filter (λ line. not (is_comment line)) ls

-- the text, and so its first line, begins with "#FIG 3.2"
abbrev pub is_version : List ℕ → Bool
is_version text = starts_with nat_eq text (codes "#FIG 3.2")

-- the lines after the first that are no comments: the seven of the header, and then those of the
-- objects
abbrev pub plain_lines : List ℕ → List (List ℕ)
plain_lines text = plain (drop 1 (lines text))

-- the tokens of the lines ls, one line after another
abbrev pub tokens : List (List ℕ) → List Token
tokens ls = flat_map words ls

-- the tokens of what is left of a line, and of the text behind it
abbrev pub tokens_left : List ℕ → List ℕ → List Token
tokens_left line rest = words line ++ tokens (plain (lines rest))

-- the tokens behind the first two, which are "1200" and "2" byte for byte
abbrev pub after_resolution : List Token → Result (List Token) FigFault
after_resolution (first ∷ second ∷ ts) =
    if pointwise nat_eq first (codes "1200") && pointwise nat_eq second (codes "2") then Ok ts
    else Err fault.Resolution
after_resolution ts = Err fault.Resolution

-- the tokens of the objects behind first line, header and resolution, or the first fault before
-- them
unfoldable pub object_tokens : List ℕ → Result (List Token) FigFault
object_tokens text =
    if not (is_version text) then Err fault.Version
    else (if nat_lt (length (plain_lines text)) 7 then Err fault.Header
    else after_resolution (tokens (drop 7 (plain_lines text))))
