-- A FIG text in which comments stand for the lines of an object (Xfig, FIG Format 3.2: an object
-- begins with its code, and a compound ends with -6; that a line which begins otherwise goes on
-- with the object before it is this project's choice).
use Rattle.std.specs.Prelude.{ℕ, ◌-◌, Bool, false, not, ◌&&◌, ◌||◌, ◌==◌, nat_eq, nat_le}
use Rattle.std.specs.Prelude.{List, [], ◌∷◌, ◌++◌, codes, if◌then◌else◌}
use Rattle.std.specs.List.{starts_with}
use Rattle.gf_fig_tokens.specs.Layout.{lines}
use Rattle.gf_fig_faults.specs.declared.commenting.Stage.{Stage}
use Rattle.gf_fig_faults.specs.declared.commenting.Stage.TheVariants as stage

-- the line ends a compound
abbrev pub is_compound_end : List ℕ → Bool
is_compound_end line = starts_with nat_eq line (codes "-6")

abbrev pub is_compound : List ℕ → Bool
is_compound line = starts_with nat_eq line (codes "6 ")

abbrev pub is_colour : List ℕ → Bool
is_colour line = starts_with nat_eq line (codes "0 ")

-- the line begins with a code from 0 to 6 and a blank
abbrev pub has_code : List ℕ → Bool
has_code [] = false
has_code (code ∷ []) = false
has_code (code ∷ blank ∷ bs) = nat_le 48 code && nat_le code 54 && blank == 32

-- an object of FIG can begin on the line, or a compound end
abbrev pub begins_object : List ℕ → Bool
begins_object line = has_code line || is_compound_end line

-- a comment stands for the line
abbrev pub is_out : Stage → List ℕ → Bool
is_out (stage.Before ahead) line = ahead == 0
is_out stage.Within line = not (begins_object line)
is_out stage.Compound line = is_compound_end line
is_out stage.Behind line = false

-- where the next line stands: of a compound the first line goes, and the next one that ends one.
-- Of another object go its first line and those behind it, up to one that can begin an object
abbrev pub stage_behind : Stage → List ℕ → Stage
stage_behind (stage.Before ahead) line =
    if ahead == 0 then (if is_compound line then stage.Compound else stage.Within)
    else stage.Before (ahead - 1)
stage_behind stage.Within line = if begins_object line then stage.Behind else stage.Within
stage_behind stage.Compound line = if is_compound_end line then stage.Behind else stage.Compound
stage_behind stage.Behind line = stage.Behind

-- a line with LF
abbrev pub line_text : List ℕ → List ℕ
line_text line = line ++ 10 ∷ []

-- the text of these lines, of which the first one stands so to the object
abbrev pub commented : Stage → List (List ℕ) → List ℕ
commented s [] = []
commented s (line ∷ ls) =
    line_text (if is_out s line then codes "#" else line) ++ commented (stage_behind s line) ls

-- the text with comments in place of the object that begins on line n
abbrev pub commented_out : ℕ → List ℕ → List ℕ
commented_out n text = commented (stage.Before (n - 1)) (lines text)
