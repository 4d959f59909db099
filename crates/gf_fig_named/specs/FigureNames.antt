-- How the names of the figures of a text are found. No public clause cites this module.
use Rattle.std.specs.Prelude.{ℕ, ◌*◌, ◌-◌, Bool, true, false, ◌&&◌, ◌||◌, ◌==◌, List}
use Rattle.std.specs.Prelude.{[], ◌∷◌, ◌++◌, Option, Some, None, ℤ, pos, if◌then◌else◌}
use Rattle.std.specs.List.{fold}
use Rattle.std.specs.Ordering.{int_eq}
use Rattle.gf_fig_tokens.specs.Layout.{Token, is_comment, words}
use Rattle.gf_fig_tokens.specs.Forms.{whole}
use Rattle.gf_fig_named.specs.declared.figures.Place.{Place}
use Rattle.gf_fig_named.specs.declared.reading.Named.{Named}
use Rattle.gf_fig_named.specs.NamesAbove.{is_silent, name_above}
use Rattle.gf_fig_named.specs.Spelling.{spelt_number}

-- ---- lines before the tokens

-- how many of so many lines are left behind this one, of which comments are none
abbrev pub left_behind : ℕ → List ℕ → ℕ
left_behind n line = if is_comment line then n else n - 1

-- what follows so many lines that are no comments
abbrev pub behind_lines : ℕ → List (List ℕ) → List (List ℕ)
behind_lines n [] = []
behind_lines n (l ∷ ls) = if n == 0 then l ∷ ls else behind_lines (left_behind n l) ls

-- what follows the first line and those of the header
abbrev pub behind_header : List (List ℕ) → List (List ℕ)
behind_header [] = []
behind_header (l ∷ ls) = behind_lines 7 ls

-- ---- tokens

abbrev pub place_at : ℕ → Bool → Place
place_at n counts = record { left = n; counts = counts }

-- a number with which a figure begins
abbrev pub is_figure : Option ℤ → Bool
is_figure (Some n) = int_eq n (pos 1) || int_eq n (pos 2)
is_figure None = false

-- the token begins a figure
abbrev pub begins : Place → Token → Bool
begins p t = p.left == 0 && is_figure (whole t)

-- where a reading stands behind the first token of an object, which is this number
abbrev pub begun : Option ℤ → Place
begun (Some n) =
    if int_eq n (pos 0) then place_at 2 false
    else (if int_eq n (pos 1) then place_at 19 false
    else (if int_eq n (pos 2) then place_at 15 true else place_at 0 false))
begun None = place_at 0 false

-- where a reading stands behind a count of points
abbrev pub points : Option ℕ → Place
points (Some n) = place_at (2 * n) false
points None = place_at 0 false

-- where a reading stands behind a token
abbrev pub next : Place → Token → Place
next p t =
    if p.left == 0 then begun (whole t)
    else (if p.left == 1 && p.counts then points (spelt_number 65536 t)
    else place_at (p.left - 1) p.counts)

-- ---- figures

-- the names of the figures that tokens of a line begin; only that of the first token has the name
-- above
abbrev pub line_figures : Place → Option Named → List Token → List (Option Named)
line_figures p named [] = []
line_figures p named (t ∷ ts) =
    (if begins p t then named ∷ [] else []) ++ line_figures (next p t) None ts

-- the names of the figures that begin on the lines, where the first list begins with the lines
-- directly above
abbrev pub named_figures : Place → List (List ℕ) → List (List ℕ) → List (Option Named)
named_figures p above [] = []
named_figures p above (l ∷ ls) =
    if is_silent l then named_figures p above ls
    else line_figures p (name_above above) (words l)
    ++ named_figures (fold next p (words l)) ls ls

-- the names of the figures of a text with these lines
abbrev pub figures_named : List (List ℕ) → List (Option Named)
figures_named ls = named_figures (place_at 2 false) (behind_header ls) (behind_header ls)
