-- How visible versions are matched with figures, one after the other. No public clause cites this
-- module.
use Rattle.std.specs.Prelude.{◌≡◌, ℕ, Bool, ◌||◌, ℤ, int_lt, List, ◌∷◌, ◌++◌, All, Some, map}
use Rattle.std.specs.Prelude.{slice_get, take}
use Rattle.gf_shape.specs.declared.any_shape.AnyShape.{AnyShape}
use Rattle.gf_shape.specs.declared.bounds.Bounds.{Bounds}
use Rattle.gf_plane.specs.declared.colour.Rgb.{Rgb}
use Rattle.gf_shape.specs.declared.outline.Outline.{Outline}
use Rattle.gf_plane.specs.declared.point.Point.{Point}
use Rattle.gf_shape.specs.Outlines.{any_outline}
use Rattle.gf_shape.specs.ShapeLaws.{IsLawful}
use Rattle.gf_ops.specs.declared.change.Form.{Form}
use Rattle.gf_versions.specs.declared.placed.Placed.{Placed}
use Rattle.gf_figures.specs.declared.figure.Figure.{Figure}
use Rattle.gf_figures.specs.Colours.{Table}
use Rattle.gf_figures.specs.DrawingColour.{figure_colour}
use Rattle.gf_objects.specs.Objects.{form_of, place_of}
use Rattle.gf_take.specs.ShownDrawing.{CanSwap, IsReordered, TakesOut}

-- what an outline of this colour becomes: its form, its place and the colour
abbrev pub trace : Outline → Rgb → Form × Point × Rgb
trace o c = (form_of o, place_of o, c)

-- the items, drawn by their outlines, and the figures become the same, one after the other. The
-- figures are lawful
pub record AreTraced (table : Table) (items : List (Placed AnyShape))
    (figures : List (Figure Outline)) : Type 0 where
  pub same : map (λ (i : Placed AnyShape). trace (any_outline i.shape) i.colour) items
      ≡ map (λ (f : Figure Outline). trace f.shape (figure_colour table f)) figures
  pub lawful : All (λ (f : Figure Outline). IsLawful f.shape) figures

-- two outlines become objects of one form at one place, and the other is lawful
pub record BecomeAlike (o other : Outline) : Type 0 where
  pub form : form_of o ≡ form_of other
  pub place : place_of o ≡ place_of other
  pub lawful : IsLawful other

-- a version, drawn by its outline o, and a figure become objects of one form, place and colour
pub record IsTraced (table : Table) (o : Outline) (c : Rgb) (f : Figure Outline) : Type 0 where
  pub alike : BecomeAlike o f.shape
  pub colour : c ≡ figure_colour table f

-- two spans, each from its low to its high number, lie beside each other
unfoldable pub lie_beside : ℤ → ℤ → ℤ → ℤ → Bool
lie_beside low high other_low other_high = int_lt high other_low || int_lt other_high low

-- the bounds a and b do not meet: they lie beside each other, or one above the other
abbrev pub are_apart : Bounds → Bounds → Bool
are_apart a b = lie_beside a.low.x a.high.x b.low.x b.high.x
    || lie_beside a.low.y a.high.y b.low.y b.high.y

-- the figure at position k is the first of these that is like the outline of this colour
pub record IsLikeAt (table : Table) (o : Outline) (c : Rgb) (figures : List (Figure Outline))
    (k : ℕ) : Type 0 where
  pub figure : Figure Outline
  pub at : slice_get figures k ≡ Some figure
  pub traced : IsTraced table o c figure
  pub unlike : All (λ f. ¬ (IsTraced table o c f)) (take k figures)

-- the first figure like the version i is taken out of old, and can be swapped with all before it
pub record TakesLike (table : Table) (i : Placed AnyShape) (old new : List (Figure Outline))
    : Type 0 where
  pub before : List (Figure Outline)
  pub figure : Figure Outline
  pub after : List (Figure Outline)
  pub whole : old ≡ before ++ figure ∷ after
  pub left : new ≡ before ++ after
  pub traced : IsTraced table (any_outline i.shape) i.colour figure
  pub swaps : All (CanSwap table figure) before
  pub unlike : All (λ f. ¬ (IsTraced table (any_outline i.shape) i.colour f)) before

-- no figure like the version i can be taken out of these
abbrev pub TakesNone : Table → Placed AnyShape → List (Figure Outline) → Type 0
TakesNone table i figures = (f : Figure Outline) (rest : List (Figure Outline))
    → IsTraced table (any_outline i.shape) i.colour f → ¬ (TakesOut table f figures rest)

-- the items are matched with figures taken out of fs, in the order in which they were taken, and
-- these are left. However those are reordered, with the taken ones before them fs is
pub record AreMatched (table : Table) (fs : List (Figure Outline)) (items : List (Placed AnyShape))
    (left : List (Figure Outline)) : Type 0 where
  pub order : List (Figure Outline)
  pub traced : AreTraced table items order
  pub rest : (others : List (Figure Outline)) → IsReordered table left others
      → IsReordered table fs (order ++ others)

-- the items are matched with all figures of fs, in an order that paints the same
pub record AreShown (table : Table) (fs : List (Figure Outline)) (items : List (Placed AnyShape))
    : Type 0 where
  pub order : List (Figure Outline)
  pub traced : AreTraced table items order
  pub reordered : IsReordered table fs order
