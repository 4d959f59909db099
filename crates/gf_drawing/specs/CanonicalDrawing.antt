-- The drawing that a history means (this project's choice of depths and colour numbers, within
-- Xfig's FIG Format 3.2).
use Rattle.std.specs.Prelude.{◌≡◌, ℕ, ◌+◌, ◌≤◌, not, List, [], ◌∷◌, length}
use Rattle.std.specs.Prelude.{map, filter}
use Rattle.std.specs.List.{enumerate_from, position_or_len}
use Rattle.gf_plane.specs.declared.colour.Rgb.{Rgb}
use Rattle.gf_plane.specs.declared.point.Point.{Point}
use Rattle.gf_shape.specs.declared.any_shape.AnyShape.{AnyShape}
use Rattle.gf_shape.specs.declared.outline.Outline.{Outline}
use Rattle.gf_shape.specs.FigureMeaning.{outline_holds}
use Rattle.gf_shape.specs.ShapeMeaning.{any_holds}
use Rattle.gf_ops.specs.declared.op.Op.{Op}
use Rattle.gf_ops.specs.ConflictTests.{colour_eq}
use Rattle.gf_versions.specs.declared.placed.Placed.{Placed}
use Rattle.gf_versions.specs.declared.ranking.TheConstants.{MOST_VERSIONS}
use Rattle.gf_versions.specs.HistoryColour.{HistoryColour}
use Rattle.gf_versions.specs.Ranking.{AreRanked}
use Rattle.gf_figures.specs.declared.figure.Figure.{Figure}
use Rattle.gf_figures.specs.Colours.{Table}
use Rattle.gf_figures.specs.DrawingColour.{drawing_colour}
use Rattle.gf_figures.specs.DrawingState.{DrawingState}

-- each colour once, as it is first seen
abbrev pub first_seen : List Rgb → List Rgb
first_seen [] = []
first_seen (c ∷ cs) = c ∷ filter (λ d. not (colour_eq c d)) (first_seen cs)

-- 32 plus how many of the distinct colours cs come before c
abbrev pub number_of : List Rgb → Rgb → ℕ
number_of cs c = 32 + position_or_len (colour_eq c) cs

-- the items are versions at their places, of shapes of type S
module _ {S : Type 0} where
  -- the distinct colours of the items, as they are first seen from the top
  abbrev pub colours_of : List (Placed S) → List Rgb
  colours_of items = first_seen (map (λ (i : Placed S). i.colour) items)

  -- the n-th item from the top, counted from 0: its shape, the number of its colour among cs, depth
  -- n
  abbrev pub canonical_figure : List Rgb → ℕ × Placed S → Figure S
  canonical_figure cs (n, i) = record { shape = i.shape; colour = number_of cs i.colour; depth = n }

  -- the distinct colours of the items, numbered from 32
  abbrev pub canonical_table : List (Placed S) → Table
  canonical_table items = enumerate_from 32 (colours_of items)

  -- a figure for each of the items, from the top
  abbrev pub canonical_figures : List (Placed S) → List (Figure S)
  canonical_figures items = map (canonical_figure (colours_of items)) (enumerate_from 0 items)

  -- the drawing of the items, topmost first
  abbrev pub canonical_drawing : List (Placed S) → DrawingState S
  canonical_drawing items = record {
    table = canonical_table items;
    figures = canonical_figures items;
  }

  -- the items are at most 1,000, and have at most 512 distinct colours
  pub record Fits (items : List (Placed S)) : Type 0 where
    pub versions : length items ≤ MOST_VERSIONS
    pub colours : length (colours_of items) ≤ 512

-- d is the canonical drawing of h: that of its visible versions, which fit
pub record IsCanonical (h : List Op) (d : DrawingState AnyShape) : Type 0 where
  pub items : List (Placed AnyShape)
  pub ranked : AreRanked h items
  pub fits : Fits items
  pub drawing : d ≡ canonical_drawing items

-- d has at every point the colour that h means there
abbrev pub Paints : List Op → DrawingState AnyShape → Type 0
Paints h d = (p : Point) → HistoryColour h p (drawing_colour any_holds d.table d.figures p)

-- painted by the figure meaning, d has at every point the colour that h means there
abbrev pub PaintsAsFig : List Op → DrawingState Outline → Type 0
PaintsAsFig h d =
    (p : Point) → HistoryColour h p (drawing_colour outline_holds d.table d.figures p)
