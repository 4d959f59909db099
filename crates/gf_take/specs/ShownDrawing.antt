-- When the visible versions of a history show a drawing: from the front to the back they look like
-- its figures, in an order that differs only where it is not seen (this project's choice, over
-- Xfig, FIG Format 3.2: depth).
use Rattle.std.specs.Prelude.{◌≡◌, ◌⊎◌, List, [], ◌∷◌, map}
use Rattle.gf_shape.specs.declared.any_shape.AnyShape.{AnyShape}
use Rattle.gf_shape.specs.declared.bounds.Bounds.{Bounds}
use Rattle.gf_plane.specs.declared.colour.Rgb.{Rgb}
use Rattle.gf_shape.specs.declared.outline.Outline.{Outline}
use Rattle.gf_plane.specs.declared.point.Point.{Point}
use Rattle.gf_shape.specs.FigureMeaning.{outline_holds}
use Rattle.gf_shape.specs.ShapeLaws.{IsBounds, IsInBounds}
use Rattle.gf_ops.specs.declared.op.Op.{Op}
use Rattle.gf_versions.specs.declared.placed.Placed.{Placed}
use Rattle.gf_versions.specs.Ranking.{AreRanked, form_at}
use Rattle.gf_figures.specs.declared.figure.Figure.{Figure}
use Rattle.gf_figures.specs.Colours.{Table}
use Rattle.gf_figures.specs.DrawingColour.{figure_colour, from_front}
use Rattle.gf_figures.specs.DrawingState.{DrawingState}
use Rattle.gf_objects.specs.Objects.{form_of, place_of}

-- what is seen of an object: its shape at its place, and its colour
abbrev pub Look : Type 0
Look = AnyShape × Rgb

-- how a visible version looks
abbrev pub look_at : Placed AnyShape → Look
look_at i = (i.shape, i.colour)

-- the shape of what an outline becomes: its form at its place
abbrev pub shape_become : Outline → AnyShape
shape_become o = form_at (form_of o) (place_of o)

-- how the object looks that the figure f becomes
abbrev pub look_of : Table → Figure Outline → Look
look_of table f = (shape_become f.shape, figure_colour table f)

-- the least bounds of two outlines have no common point
pub record AreApart (o other : Outline) : Type 0 where
  pub bounds : Bounds
  pub others : Bounds
  pub is_bounds : IsBounds (outline_holds o) bounds
  pub is_others : IsBounds (outline_holds other) others
  pub apart : (p : Point) → IsInBounds bounds p → ¬ (IsInBounds others p)

-- it is not seen which of the figures f and g lies in front: they have one colour, or lie apart
abbrev pub CanSwap : Table → Figure Outline → Figure Outline → Type 0
CanSwap table f g = (figure_colour table f ≡ figure_colour table g) ⊎ AreApart f.shape g.shape

-- taking the figure f out of figures leaves the rest: it lies in front, or behind figures with each
-- of which it can be swapped
pub data TakesOut (table : Table) (f : Figure Outline)
    : List (Figure Outline) → List (Figure Outline) → Type 0 where
  first : {rest : List (Figure Outline)} → TakesOut table f (f ∷ rest) rest
  behind : {figures rest : List (Figure Outline)} (g : Figure Outline) → CanSwap table f g
      → TakesOut table f figures rest → TakesOut table f (g ∷ figures) (g ∷ rest)

-- the second list has the figures of the first in an order that paints the same: each in turn is
-- taken out of those that are left
pub data IsReordered (table : Table) : List (Figure Outline) → List (Figure Outline) → Type 0 where
  none : IsReordered table [] []
  next : {figures rest order : List (Figure Outline)} (f : Figure Outline)
      → TakesOut table f figures rest → IsReordered table rest order
      → IsReordered table figures (f ∷ order)

-- from the front to the back, the visible versions of h look like the figures of d, one like the
-- other
pub record LooksLike (h : List Op) (d : DrawingState Outline) : Type 0 where
  pub items : List (Placed AnyShape)
  pub ranked : AreRanked h items
  pub same : map look_at items ≡ map (look_of d.table) (from_front d.figures)

-- from the front to the back, the visible versions of h look like the figures of d, one like the
-- other, in an order that paints the same
pub record ShowsDrawing (h : List Op) (d : DrawingState Outline) : Type 0 where
  pub items : List (Placed AnyShape)
  pub ranked : AreRanked h items
  pub order : List (Figure Outline)
  pub reordered : IsReordered d.table (from_front d.figures) order
  pub same : map look_at items ≡ map (look_of d.table) order
