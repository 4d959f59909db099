-- What a drawing leaves as it is: objects whose figures stand in it under their names (this
-- project's choice).
use Rattle.std.specs.Prelude.{◌≡◌, ◌≢◌, ℕ, ◌+◌, Bool, true, false, List, Contains, length}
use Rattle.std.specs.Prelude.{slice_get}
use Rattle.std.specs.Prelude.{Option, None, Some, if◌then◌else◌}
use Rattle.gf_shape.specs.declared.any_shape.AnyShape.{AnyShape}
use Rattle.gf_shape.specs.declared.outline.Outline.{Outline}
use Rattle.gf_ops.specs.declared.op.Op.{Op}
use Rattle.gf_ops.specs.declared.op.ObjectId.{ObjectId}
use Rattle.gf_ops.specs.declared.change.Change.{Change}
use Rattle.gf_ops.specs.declared.change.Change.TheVariants.{Create, Set}
use Rattle.gf_ops.specs.declared.change.Value.{Value}
use Rattle.gf_ops.specs.declared.change.Value.TheVariants.{Place, Points, Size, Colour, Layer}
use Rattle.gf_ops.specs.declared.change.Value.TheVariants.{Shown}
use Rattle.gf_versions.specs.declared.placed.Placed.{Placed}
use Rattle.gf_versions.specs.Ranking.{AreRanked}
use Rattle.gf_figures.specs.declared.figure.Figure.{Figure}
use Rattle.gf_fig_read.specs.Objects.{Drawn}
use Rattle.gf_fig_named.specs.NamedFigures.{IsNamed}
use Rattle.gf_fig_named.specs.NamedText.{IsNameOf}
use Rattle.gf_fig_named.specs.declared.reading.Named.{Named}
use Rattle.gf_take.specs.ShownDrawing.{look_at, look_of}

-- the value is a layer
abbrev pub is_layer : Value → Bool
is_layer (Layer n) = true
is_layer (Place p) = false
is_layer (Points ps) = false
is_layer (Size width height) = false
is_layer (Colour c) = false
is_layer (Shown shown) = false

-- the object of which a change gives something else than a layer, if it is such a change
abbrev pub changed_look : Change → Option ObjectId
changed_look (Create start) = None
changed_look (Set o v aim) = if is_layer v then None else Some o

-- of the drawing that the text reads as, a figure has the name of the item among these, and looks
-- like it
pub record HasOwnFigure (h : List Op) (items : List (Placed AnyShape)) (fig : List ℕ)
    (drawing : Drawn) (item : Placed AnyShape) : Type 0 where
  pub index : ℕ
  pub figure : Figure Outline
  pub at : slice_get drawing.figures index ≡ Some figure
  pub named : Named
  pub is_named : IsNamed fig (length drawing.table + index + 1) named
  pub is_name : IsNameOf h items item named.name
  pub look : look_of drawing.table figure ≡ look_at item

-- h has visible versions of the object o, and each has a figure of its name that looks like it
pub record StandsIn (h : List Op) (fig : List ℕ) (drawing : Drawn) (o : ObjectId) : Type 0 where
  pub items : List (Placed AnyShape)
  pub ranked : AreRanked h items
  pub some : Placed AnyShape
  pub listed : Contains items some
  pub object : some.key.object ≡ o
  pub each : (i : Placed AnyShape) → Contains items i → i.key.object ≡ o
      → HasOwnFigure h items fig drawing i

-- of an object that stands in the drawing, the change gives nothing but a layer
abbrev pub LeavesStanding : List Op → List ℕ → Drawn → Change → Type 0
LeavesStanding h fig drawing change =
    (o : ObjectId) → StandsIn h fig drawing o → changed_look change ≢ Some o
