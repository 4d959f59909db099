-- Worked examples of the lines of a text, checked by computing.
use Rattle.std.specs.Prelude.{◌≡◌, [], ◌∷◌, refl, codes}
use Rattle.gf_streams.specs.TextLines.{numbered_lines}

-- blank lines are counted and not given, and the last LF may be missing
pub lines_of_a_text : numbered_lines (codes "a\n\n \t\r\n b\r\nc")
    ≡ (1, codes "a") ∷ (4, codes " b\r") ∷ (5, codes "c") ∷ []
lines_of_a_text = refl

pub last_line_feed : numbered_lines (codes "a\n") ≡ (1, codes "a") ∷ []
last_line_feed = refl

pub no_lines : numbered_lines [] ≡ []
no_lines = refl
