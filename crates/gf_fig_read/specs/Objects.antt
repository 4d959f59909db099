-- The objects of a FIG text, field by field (Xfig, FIG Format 3.2: colour, ellipse and polyline
-- objects); the limits and the faults are this project's profile.
use Rattle.std.specs.Prelude.{ℕ, ◌==◌, nat_eq, nat_le, [], ◌∷◌, ◌++◌, length, is_none}
use Rattle.std.specs.Prelude.{if◌then◌else◌}
use Rattle.gf_shape.specs.declared.outline.Outline.{Outline}
use Rattle.gf_figures.specs.declared.figure.Figure.{Figure}
use Rattle.gf_figures.specs.Colours.{colour_in}
use Rattle.gf_figures.specs.DrawingState.{DrawingState}
use Rattle.gf_fig_tokens.specs.Forms.{colour}
use Rattle.gf_fig_tokens.specs.Fields.{Reader, ◌>>=◌, any, check, give, natural}
use Rattle.gf_fig_read.specs.Styles.{style}
use Rattle.gf_fig_read.specs.Outlines.{chain, ellipse}
use Rattle.gf_fig_tokens.specs.declared.faults.FigFault.TheVariants as fault

-- what a FIG text denotes: a colour table and figures in file order, each with its outline
abbrev pub Drawn : Type 0
Drawn = DrawingState Outline

-- a colour behind its code 0: drawing d with it
unfoldable pub colour_object : Drawn → Reader Drawn
colour_object d = do
  early ← check (nat_eq (length d.figures) 0) fault.LateColour
  number ← natural 32 543 fault.Range
  new ← check (is_none (colour_in d.table number)) fault.ColourTwice
  rgb ← any colour
  give (record d { table = d.table ++ (number, rgb) ∷ [] })

-- a figure of a sub type from least to most, with the outline of that sub type: drawing d with it
unfoldable pub figure_object : ℕ → ℕ → (ℕ → Reader Outline) → Drawn → Reader Drawn
figure_object least most outline d = do
  s ← style least most d.table
  o ← outline s.sub_type
  let f : Figure Outline = record { shape = o; colour = s.colour; depth = s.depth } in
      give (record d { figures = d.figures ++ f ∷ [] })

-- an object behind those that made drawing d: d with it. Code 0 is a colour. Code 1 is an ellipse:
-- of sub type 1 and 2 by radii or diameters, of 3 and 4 a circle. Code 2 is a polyline: of sub type
-- 2 a box, of 3 a polygon
unfoldable pub object : Drawn → Reader Drawn
object d = do
  code ← natural 0 2 fault.Object
  if code == 0 then colour_object d
      else (if code == 1 then figure_object 1 4 (λ t. ellipse (nat_le 3 t)) d
      else figure_object 2 3 (λ t. chain (t == 2)) d)
