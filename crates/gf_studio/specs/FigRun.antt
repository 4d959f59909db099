-- What a run makes of the history that its bytes denote (this project's choice).
use Rattle.std.specs.Prelude.{◌≡◌, ℕ, List, length, Option, ⊤}
use Rattle.gf_shape.specs.declared.any_shape.AnyShape.{AnyShape}
use Rattle.gf_shape.specs.Outlines.{any_outline}
use Rattle.gf_ops.specs.declared.op.ObjectId.{ObjectId}
use Rattle.gf_ops.specs.declared.op.Op.{Op}
use Rattle.gf_versions.specs.declared.ranking.TheConstants.{MOST_VERSIONS}
use Rattle.gf_figures.specs.DrawingState.{DrawingState}
use Rattle.gf_figures.specs.Outlined.{outlined}
use Rattle.gf_drawing.specs.declared.compiling.CompileFault.{CompileFault}
use Rattle.gf_drawing.specs.declared.compiling.CompileFault.TheVariants as compile
use Rattle.gf_drawing.specs.CanonicalDrawing.{IsCanonical, Paints, PaintsAsFig}
use Rattle.gf_fig_read.specs.FigGrammar.{Reads}
use Rattle.gf_fig_write.specs.FigText.{fig_text}
use Rattle.gf_fig_write.specs.ShownHistory.{Shows}
use Rattle.gf_fig_named.specs.NamedText.{HasMoreColours, IsNamedText}
use Rattle.gf_fig_named.specs.ThinPolygons.{AreThinOf}
use Rattle.gf_replay.specs.Denoting.{Denotes}
use Rattle.gf_replay.specs.Waiting.{DenotesWaiting}
use Rattle.gf_visible.specs.ShownVersions.{HasMoreVisible}
use Rattle.gf_run.specs.RunAnswers.{WritesText}

-- the bytes denote a history of which this holds
pub record DenotesSuch (bytes : List ℕ) (IsSuch : List Op → Type 0) : Type 0 where
  pub history : List Op
  pub denoted : Denotes bytes history
  pub such : IsSuch history

-- the drawing is the canonical one of h, and has at every point the colour that h means there. Both
-- its shapes and the outlines that FIG draws of them have these colours
pub record IsDrawn (h : List Op) (drawing : DrawingState AnyShape) : Type 0 where
  pub canonical : IsCanonical h drawing
  pub colours : Paints h drawing
  pub figures : PaintsAsFig h (outlined any_outline drawing)

-- the bytes denote a history of which this is the drawing
abbrev pub Draws : List ℕ → DrawingState AnyShape → Type 0
Draws bytes drawing = DenotesSuch bytes (λ h. IsDrawn h drawing)

-- the bytes denote a history, and behind it n operations wait
pub record HoldsBack (bytes : List ℕ) (n : ℕ) : Type 0 where
  pub history : List Op
  pub waiting : List Op
  pub denoted : DenotesWaiting bytes history waiting
  pub count : n ≡ length waiting

-- known bytes grow from old to new by a text that shows the history that the bytes denote
abbrev pub Exports : List ℕ → Option (List ℕ) → Option (List ℕ) → Type 0
Exports bytes old new = WritesText (λ text. DenotesSuch bytes (Shows text)) old new

-- the text is the one FIG text of what the bytes draw, and reads as the drawing of its outlines
pub record IsFigOf (bytes text : List ℕ) : Type 0 where
  pub drawing : DrawingState AnyShape
  pub drawn : Draws bytes drawing
  pub is : text ≡ fig_text any_outline drawing
  pub reads : Reads text (outlined any_outline drawing)

-- known bytes grow from old to new by the one FIG text of what the bytes draw
abbrev pub Writes : List ℕ → Option (List ℕ) → Option (List ℕ) → Type 0
Writes bytes old new = WritesText (IsFigOf bytes) old new

-- the text is the named one of the history that the bytes denote
abbrev pub IsNamedOf : List ℕ → List ℕ → Type 0
IsNamedOf bytes text = DenotesSuch bytes (λ h. IsNamedText h text)

-- known bytes grow from old to new by the named text of the history that the bytes denote
abbrev pub WritesNamed : List ℕ → Option (List ℕ) → Option (List ℕ) → Type 0
WritesNamed bytes old new = WritesText (IsNamedOf bytes) old new

-- the bytes denote a history whose polygons that xfig does not keep have these objects
abbrev pub HasThin : List ℕ → List ObjectId → Type 0
HasThin bytes objects = DenotesSuch bytes (λ h. AreThinOf h objects)

-- why h has no drawing; want of memory may come with any h
abbrev pub RefusesHistory : List Op → CompileFault → Type 0
RefusesHistory h compile.TooManyVersions = HasMoreVisible h MOST_VERSIONS
RefusesHistory h compile.TooManyColours = HasMoreColours h
RefusesHistory h compile.OutOfMemory = ⊤

-- the bytes denote a history that has no drawing, for this fault; want of memory is none of theirs
abbrev pub RefusesCompiling : List ℕ → CompileFault → Type 0
RefusesCompiling bytes compile.OutOfMemory = ⊥
RefusesCompiling bytes fault = DenotesSuch bytes (λ h. RefusesHistory h fault)
