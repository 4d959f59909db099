-- What is taken of a text: new operations of one site, which show the drawing that the text ends
-- with (this project's choice, over causal delivery).
use Rattle.std.specs.Prelude.{◌≡◌, ◌≤◌, ℕ, List, [], ◌++◌, All, length}
use Rattle.gf_streams.specs.TextLines.{numbered_lines}
use Rattle.gf_ops.specs.declared.op.Op.{Op}
use Rattle.gf_ops.specs.declared.op.Clock.{Clock}
use Rattle.gf_ops.specs.declared.change.Change.{Change}
use Rattle.gf_causal.specs.DeliveredPart.{HaveSame}
use Rattle.gf_replay.specs.Denoting.{AreLinesOf}
use Rattle.gf_fig_read.specs.FigGrammar.{Reads}
use Rattle.gf_fig_read.specs.Objects.{Drawn}
use Rattle.gf_versions.specs.declared.ranking.TheConstants.{MOST_VERSIONS}
use Rattle.gf_fig_named.specs.Known.{TellsKnown}
use Rattle.gf_take.specs.Bases.{AreRead, IsBase}
use Rattle.gf_take.specs.ShownDrawing.{LooksLike}
use Rattle.gf_take.specs.Taking.{Takes}
use Rattle.gf_take_run.specs.Parting.{IsParted}
use Rattle.gf_take_run.specs.ChangedObjects.{MayChange}
use Rattle.gf_take_run.specs.LeftObjects.{LeavesStanding}
use Rattle.gf_take_run.specs.KnownHistory.{AreThere, IsNewer}

-- the lines denote operations, which deliver the history, and none blocks site s
pub record DenotesLines (s : ℕ) (lines : List ℕ) (history : List Op) : Type 0 where
  pub ops : List Op
  pub denoted : AreLinesOf (numbered_lines lines) ops
  pub read : AreRead s ops history

-- the FIG text reads as the drawing, of at most 1,000 figures, and tells that it knew the
-- operations that the clock counts
pub record DenotesDrawing (fig : List ℕ) (drawing : Drawn) (knew : Clock) : Type 0 where
  pub reads : Reads fig drawing
  pub few : length drawing.figures ≤ MOST_VERSIONS
  pub knows : TellsKnown fig knew

-- site s makes the new operations behind the base of what the drawing knew of the history. All that
-- the drawing knew is there, and no operation of the site knows more of others. Each change is of
-- an object that the base shows, or that the text names, or creates one. An object that stands in
-- the drawing gets nothing but layers. None is made where the base looks like the drawing
pub record TakesDrawing (s : ℕ) (history : List Op) (fig : List ℕ) (drawing : Drawn)
    (knew : Clock) (new : List Op) : Type 0 where
  pub there : AreThere knew history
  pub young : (a x : Op) → ¬ (IsNewer s knew history a x)
  pub base : List Op
  pub is_base : IsBase s knew history base
  pub changes : List Change
  pub takes : Takes s base changes new drawing
  pub may : All (MayChange base fig) changes
  pub standing : All (LeavesStanding base fig drawing) changes
  pub same : LooksLike base drawing → new ≡ []

-- the bytes are operation lines and a FIG text behind them, of which site s takes new operations
pub record DenotesTake (s : ℕ) (bytes : List ℕ) (new : List Op) : Type 0 where
  pub lines : List ℕ
  pub fig : List ℕ
  pub parted : IsParted bytes lines fig
  pub history : List Op
  pub read : DenotesLines s lines history
  pub drawing : Drawn
  pub knew : Clock
  pub drawn : DenotesDrawing fig drawing knew
  pub taken : TakesDrawing s history fig drawing knew new

-- the lines of these bytes denote what the take read and what it made, in whatever order and
-- however often
pub record JoinsTakenText (s : ℕ) (bytes : List ℕ) (new : List Op) (others : List ℕ) : Type 0 where
  pub take : DenotesTake s bytes new
  pub ops : List Op
  pub lines : AreLinesOf (numbered_lines others) ops
  pub same : HaveSame ops (take.read.ops ++ new)
