-- Colours by number (Xfig, FIG Format 3.2: the standard colours and the colour objects; the values
-- of the colours 0 to 7 are this project's choice).
use Rattle.std.specs.Prelude.{ℕ, List, [], ◌∷◌, ◌++◌, find, ◌==◌, Option}
use Rattle.std.specs.Prelude.{option_map}
use Rattle.gf_plane.specs.declared.colour.Rgb.{Rgb}
use Rattle.gf_plane.specs.White.{white}

-- the colour of this red, green and blue
abbrev pub rgb : ℕ → ℕ → ℕ → Rgb
rgb r g b = record { r = r; g = g; b = b }

-- numbers with their colours, in order
abbrev pub Table : Type 0
Table = List (ℕ × Rgb)

-- the colours that every file has
abbrev pub standard_colours : Table
standard_colours =
    (0, rgb 0 0 0)
    ∷ (1, rgb 0 0 255)
    ∷ (2, rgb 0 255 0)
    ∷ (3, rgb 0 255 255)
    ∷ (4, rgb 255 0 0)
    ∷ (5, rgb 255 0 255)
    ∷ (6, rgb 255 255 0)
    ∷ (7, white)
    ∷ []

-- the first colour of the table under the number n
abbrev pub colour_in : Table → ℕ → Option Rgb
colour_in table n =
    option_map (λ (e : ℕ × Rgb). e.1) (find (λ (e : ℕ × Rgb). e.0 == n) table)

-- the colour under the number n: a standard one, or one of the table
abbrev pub rgb_of : Table → ℕ → Option Rgb
rgb_of table n = colour_in (standard_colours ++ table) n
