-- The FIG text of a history whose figures are named (Xfig, FIG Format 3.2); its comments and depths
-- are this project's choice.
use Rattle.std.specs.Prelude.{◌≡◌, ◌≢◌, ◌<◌, ◌≤◌, ℕ, List, ◌++◌, Contains, codes, flat_map}
use Rattle.std.specs.Prelude.{length, zip}
use Rattle.std.specs.List.{AllZip}
use Rattle.gf_shape.specs.declared.any_shape.AnyShape.{AnyShape}
use Rattle.gf_shape.specs.declared.outline.Outline.{Outline}
use Rattle.gf_shape.specs.Outlines.{any_outline}
use Rattle.gf_ops.specs.declared.op.Op.{Op}
use Rattle.gf_ops.specs.OperationOrder.{count_of}
use Rattle.gf_ops.specs.Version.{IsMember}
use Rattle.gf_versions.specs.declared.placed.Placed.{Placed}
use Rattle.gf_versions.specs.declared.ranking.TheConstants.{MOST_VERSIONS}
use Rattle.gf_versions.specs.Ranking.{AreRanked}
use Rattle.gf_names.specs.Telling.{AreTelling}
use Rattle.gf_figures.specs.declared.figure.Figure.{Figure}
use Rattle.gf_figures.specs.DrawingState.{DrawingState}
use Rattle.gf_drawing.specs.CanonicalDrawing.{Fits, canonical_drawing, colours_of}
use Rattle.gf_fig_write.specs.FigText.{colour_line, figure_lines}
use Rattle.gf_fig_named.specs.declared.naming.Name.{Name}
use Rattle.gf_fig_named.specs.Comments.{knows_comment, name_lines}
use Rattle.gf_fig_named.specs.Raised.{named_depth, drawing_raised}

-- the eight lines before what is known
abbrev pub first_lines : List ℕ
first_lines = codes "#FIG 3.2\nLandscape\nCenter\nMetric\nA4\n100.00\nSingle\n-2\n"

-- what is known, as a line, and the line behind it
abbrev pub known_lines : (ℕ → ℕ) → List ℕ
known_lines counts = knows_comment counts ++ codes "\n1200 2\n"

-- outline says what FIG draws of a shape
module _ {S : Type 0} (outline : S → Outline) where
  -- a figure behind its name
  abbrev pub named_lines : Name × Figure S → List ℕ
  named_lines (name, f) = name_lines name f.depth ++ figure_lines outline f

  -- the text of drawing d: the header with what is known, a line for each colour, and each figure
  -- behind its name
  abbrev pub named_text : (ℕ → ℕ) → List Name → DrawingState S → List ℕ
  named_text counts names d = first_lines ++ known_lines counts ++ flat_map colour_line d.table
      ++ flat_map named_lines (zip names d.figures)

-- of the items, a is an operation of another one of the same object as i
pub record IsOfOther (h : List Op) (items : List (Placed AnyShape)) (i : Placed AnyShape)
    (a : Op) : Type 0 where
  pub other : Placed AnyShape
  pub listed : Contains items other
  pub different : other ≢ i
  pub object : other.key.object ≡ i.key.object
  pub member : IsMember h other.key.ops a

-- the name has the object of the item i, and what tells i from the others of the items
pub record IsNameOf (h : List Op) (items : List (Placed AnyShape)) (i : Placed AnyShape)
    (name : Name) : Type 0 where
  pub object : name.object ≡ i.key.object
  pub telling : AreTelling h i.key.ops (IsOfOther h items i) name.telling

-- the text is the named one of h: that of its visible versions, which fit, each under its name, at
-- depths that leave room. It tells how many operations of each site h has
pub record IsNamedText (h : List Op) (text : List ℕ) : Type 0 where
  pub items : List (Placed AnyShape)
  pub ranked : AreRanked h items
  pub fits : Fits items
  pub names : List Name
  pub named : AllZip (IsNameOf h items) items names
  pub is : text ≡ named_text any_outline (count_of h) names
      (drawing_raised (named_depth (length items)) (canonical_drawing items))

-- h has at most 1,000 visible versions, of more than 512 distinct colours
pub record HasMoreColours (h : List Op) : Type 0 where
  pub items : List (Placed AnyShape)
  pub ranked : AreRanked h items
  pub few : length items ≤ MOST_VERSIONS
  pub many : 512 < length (colours_of items)
