-- Figures that bear the name of a version and look like it. No public clause cites this module.
use Rattle.std.specs.Prelude.{◌≡◌, ◌⊎◌, ◌<◌, ℕ, List, Contains, Option, Some, length, slice_get}
use Rattle.std.specs.Prelude.{IfSome}
use Rattle.gf_shape.specs.declared.any_shape.AnyShape.{AnyShape}
use Rattle.gf_shape.specs.declared.outline.Outline.{Outline}
use Rattle.gf_ops.specs.declared.op.ObjectId.{ObjectId}
use Rattle.gf_ops.specs.declared.change.Change.{Change}
use Rattle.gf_table.specs.Standing.{positions_of}
use Rattle.gf_versions.specs.declared.placed.Placed.{Placed}
use Rattle.gf_figures.specs.declared.figure.Figure.{Figure}
use Rattle.gf_fig_read.specs.Objects.{Drawn}
use Rattle.gf_fig_named.specs.declared.naming.Name.{Name}
use Rattle.gf_fig_named.specs.declared.reading.Named.{Named}
use Rattle.gf_take.specs.ShownDrawing.{look_at, look_of}
use Rattle.gf_take_run.specs.LeftObjects.{changed_look}
use Rattle.gf_take_run.specs.ShownItems.{IsOnItem}

-- the table has for each object the indices of the names of its figures below n
abbrev pub AreNamesBelow : List (Option Named) → ℕ → List (ObjectId × List ℕ) → Type 0
AreNamesBelow names n table = (k : ℕ) (named : Named) → k < n
    → slice_get names k ≡ Some (Some named)
    → Contains (positions_of table named.name.object) k

-- the table has for each object the indices of the names of its figures
abbrev pub AreNamesAt : List (Option Named) → List (ObjectId × List ℕ) → Type 0
AreNamesAt names table = AreNamesBelow names (length names) table

-- the figure at this index has the name, and looks like the item
pub record IsFigureAt (drawing : Drawn) (names : List (Option Named)) (item : Placed AnyShape)
    (name : Name) (index : ℕ) : Type 0 where
  pub figure : Figure Outline
  pub at : slice_get drawing.figures index ≡ Some figure
  pub named : Named
  pub named_at : slice_get names index ≡ Some (Some named)
  pub same : named.name ≡ name
  pub look : look_of drawing.table figure ≡ look_at item

-- a version of the object o among these has no figure of its name that looks like it
pub record HasNoFigure (drawing : Drawn) (names : List (Option Named))
    (items : List (Placed AnyShape)) (own : List Name) (o : ObjectId) : Type 0 where
  pub index : ℕ
  pub item : Placed AnyShape
  pub at : slice_get items index ≡ Some item
  pub name : Name
  pub name_at : slice_get own index ≡ Some name
  pub object : item.key.object ≡ o
  pub none : (k : ℕ) → ¬ (IsFigureAt drawing names item name k)

-- where the change gives an object something else than a layer, this has no version among the
-- items, or one that has no figure
abbrev pub IsMeant : Drawn → List (Option Named) → List (Placed AnyShape) → List Name → Change
    → Type 0
IsMeant drawing names items own change =
    IfSome (changed_look change)
    (λ o. (¬ (IsOnItem items o)) ⊎ HasNoFigure drawing names items own o)
