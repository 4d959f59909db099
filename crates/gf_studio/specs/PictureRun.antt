-- What a run paints of lines or of a FIG text, in a window or in the one that fits (this project's
-- choice).
use Rattle.std.specs.Prelude.{◌≡◌, ℕ, List, Option}
use Rattle.gf_shape.specs.declared.any_shape.AnyShape.{AnyShape}
use Rattle.gf_plane.specs.declared.colour.Rgb.{Rgb}
use Rattle.gf_plane.specs.declared.point.Point.{Point}
use Rattle.gf_shape.specs.FigureMeaning.{outline_holds}
use Rattle.gf_shape.specs.ShapeMeaning.{any_holds}
use Rattle.gf_figures.specs.DrawingState.{DrawingState}
use Rattle.gf_fig_read.specs.FigGrammar.{Reads}
use Rattle.gf_fig_read.specs.Objects.{Drawn}
use Rattle.gf_scanline.specs.Frames.{Sides}
use Rattle.gf_scanline.specs.Windows.{View}
use Rattle.gf_fit.specs.FittedWindow.{IsFitted, held}
use Rattle.gf_studio.specs.declared.painting.Extent.{Extent}
use Rattle.gf_studio.specs.declared.painting.Extent.TheVariants.{Fitted, Window}
use Rattle.gf_studio.specs.declared.painting.Format.{Format}
use Rattle.gf_studio.specs.declared.painting.Format.TheVariants.{Fig, Lines}
use Rattle.gf_run.specs.declared.studio_error.StudioError.{StudioError}
use Rattle.gf_studio.specs.FigRun.{Draws, HoldsBack}
use Rattle.gf_studio.specs.PaintRun.{IsDenoted, IsMeant, IsPictureIn, WritesBandsIn}
use Rattle.gf_run.specs.RefusedRuns.{RefusesFig}
use Rattle.gf_studio.specs.RefusedRuns.{RefusesLines}

-- w is the window that fits the drawing of the history that the bytes denote
pub record FitsLines (bytes : List ℕ) (frame : Sides) (w : View) : Type 0 where
  pub drawing : DrawingState AnyShape
  pub drawn : Draws bytes drawing
  pub fitted : IsFitted (held any_holds drawing.figures) frame w

-- w is the window that fits the drawing that the text reads as
pub record FitsText (text : List ℕ) (frame : Sides) (w : View) : Type 0 where
  pub drawing : Drawn
  pub reads : Reads text drawing
  pub fitted : IsFitted (held outline_holds drawing.figures) frame w

-- in an input of this format, w is the window that the extent asks for
abbrev pub IsWindowOf : Format → Extent → List ℕ → View → Type 0
IsWindowOf format (Window v) bytes w = w ≡ v
IsWindowOf Lines (Fitted frame) bytes w = FitsLines bytes frame w
IsWindowOf Fig (Fitted frame) bytes w = FitsText bytes frame w

-- colour is at every point what an input of this format shows
abbrev pub IsShownBy : Format → List ℕ → (Point → Rgb) → Type 0
IsShownBy Lines bytes = IsMeant bytes
IsShownBy Fig bytes = IsDenoted bytes

-- behind what an input of this format draws n operations wait; none wait behind a FIG text
abbrev pub LeavesOut : Format → List ℕ → ℕ → Type 0
LeavesOut Lines bytes n = HoldsBack bytes n
LeavesOut Fig bytes n = n ≡ 0

-- why a run that needs the drawing of an input of this format is refused
abbrev pub RefusesFormat : Format → List ℕ → StudioError → Type 0
RefusesFormat Lines bytes = RefusesLines bytes
RefusesFormat Fig bytes = RefusesFig bytes

-- the text is the picture, in the window that the extent asks for, of an input of this format
abbrev pub PaintsInput : Format → Extent → List ℕ → List ℕ → Type 0
PaintsInput format extent bytes =
    IsPictureIn (IsWindowOf format extent bytes) (IsShownBy format bytes)

-- known bytes grow from old to new by the header and whole bands of that picture
abbrev pub PaintsBands : Format → Extent → List ℕ → Option (List ℕ) → Option (List ℕ) → Type 0
PaintsBands format extent bytes =
    WritesBandsIn (IsWindowOf format extent bytes) (IsShownBy format bytes)
