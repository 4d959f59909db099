-- A drawing as FIG draws it, each shape by its outline (Xfig, FIG Format 3.2: polyline and ellipse
-- objects).
use Rattle.std.specs.Prelude.{map}
use Rattle.gf_shape.specs.declared.outline.Outline.{Outline}
use Rattle.gf_figures.specs.declared.figure.Figure.{Figure}
use Rattle.gf_figures.specs.DrawingState.{DrawingState}

-- outline says what FIG draws of a shape
module _ {S : Type 0} (outline : S → Outline) where
  -- figure f with the outline of its shape
  abbrev pub figure_outlined : Figure S → Figure Outline
  figure_outlined f = record { shape = outline f.shape; colour = f.colour; depth = f.depth }

  -- drawing d with the outlines of its shapes
  abbrev pub outlined : DrawingState S → DrawingState Outline
  outlined d = record { table = d.table; figures = map figure_outlined d.figures }
