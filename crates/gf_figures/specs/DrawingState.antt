-- A drawing as its callers see it, and its limits (Xfig, FIG Format 3.2: colour numbers 32 to 543,
-- depths 0 to 999).
use Rattle.std.specs.Prelude.{◌≢◌, ℕ, Bool, ◌&&◌, nat_le, IsTrue, List, All, AllPairs}
use Rattle.std.specs.Prelude.{is_some, is_none}
use Rattle.gf_plane.specs.declared.colour.Rgb.{Rgb}
use Rattle.gf_figures.specs.declared.figure.Figure.{Figure}
use Rattle.gf_figures.specs.Colours.{Table, colour_in, rgb_of}

-- the table and the figures in file order, of shapes of type S
pub record DrawingState (S : Type 0) : Type 0 where
  pub table : Table
  pub figures : List (Figure S)

-- n is a number of colour tables, 32 to 543
abbrev pub is_table_number : ℕ → Bool
is_table_number n = nat_le 32 n && nat_le n 543

-- n is a number of colour tables, and the table has no colour under it
abbrev pub IsFreeNumber : Table → ℕ → Type 0
IsFreeNumber table n = IsTrue (is_table_number n && is_none (colour_in table n))

module _ {S : Type 0} where
  -- the colour of figure f is standard or of the table, and its depth is at most 999
  abbrev pub IsLawfulFigure : Table → Figure S → Type 0
  IsLawfulFigure table f = IsTrue (is_some (rgb_of table f.colour) && nat_le f.depth 999)

  -- the numbers of d's table are 32 to 543, each at most once, and its figures are lawful
  pub record IsLawfulDrawing (d : DrawingState S) : Type 0 where
    pub numbers : All (λ (e : ℕ × Rgb). IsTrue (is_table_number e.0)) d.table
    pub distinct : AllPairs (λ (e f : ℕ × Rgb). e.0 ≢ f.0) d.table
    pub figures : All (IsLawfulFigure d.table) d.figures
