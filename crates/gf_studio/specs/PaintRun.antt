-- What the painting runs write: pictures of the colours that the bytes mean (this project's choice,
-- over Netpbm's ppm(5)).
use Rattle.std.specs.Prelude.{◌≡◌, ℕ, List, Option, Result}
use Rattle.gf_shape.specs.declared.any_shape.AnyShape.{AnyShape}
use Rattle.gf_plane.specs.declared.colour.Rgb.{Rgb}
use Rattle.gf_plane.specs.declared.point.Point.{Point}
use Rattle.gf_shape.specs.FigureMeaning.{outline_holds}
use Rattle.gf_versions.specs.HistoryColour.{HistoryColour}
use Rattle.gf_figures.specs.DrawingColour.{drawing_colour}
use Rattle.gf_figures.specs.DrawingState.{DrawingState}
use Rattle.gf_streams.specs.declared.sink.Sink.{Ghosts as Sink}
use Rattle.gf_fig_read.specs.FigGrammar.{Reads}
use Rattle.gf_fig_read.specs.Objects.{Drawn}
use Rattle.gf_scanline.specs.Windows.{View}
use Rattle.gf_scanline.specs.Picture.{header, picture}
use Rattle.gf_raster.specs.Bands.{HasBands}
use Rattle.gf_run.specs.declared.studio_error.StudioError.{StudioError}
use Rattle.gf_studio.specs.FigRun.{Draws}
use Rattle.gf_run.specs.RunAnswers.{LeavesPicture, WritesText}

-- the bytes denote a history with a drawing, and colour is at every point what this history means
pub record IsMeant (bytes : List ℕ) (colour : Point → Rgb) : Type 0 where
  pub drawing : DrawingState AnyShape
  pub drawn : Draws bytes drawing
  pub means : (p : Point) → HistoryColour drawn.history p (colour p)

-- the text reads as a drawing, and colour is that of the drawing at every point, by the figure
-- meaning
pub record IsDenoted (text : List ℕ) (colour : Point → Rgb) : Type 0 where
  pub drawing : Drawn
  pub reads : Reads text drawing
  pub paints : (p : Point) → colour p
      ≡ drawing_colour outline_holds drawing.table drawing.figures p

-- IsShown says which colours are to be painted in window w
module _ (IsShown : (Point → Rgb) → Type 0) (w : View) where
  -- the text is the picture of colours that are to be painted
  pub record IsPicture (text : List ℕ) : Type 0 where
    pub colour : Point → Rgb
    pub shown : IsShown colour
    pub is : text ≡ picture colour w

  -- known bytes grow from old to new by the picture of colours that are to be painted
  abbrev pub WritesPicture : Option (List ℕ) → Option (List ℕ) → Type 0
  WritesPicture old new = WritesText IsPicture old new

  -- known bytes grow from old to new by the header and whole bands of 64 rows, fewer than all, of
  -- the picture of colours that are to be painted
  pub record WritesBands (old new : Option (List ℕ)) : Type 0 where
    pub colour : Point → Rgb
    pub shown : IsShown colour
    pub written : HasBands (header w) colour w old new

-- the text is the picture, in window w, of what the bytes mean
abbrev pub PictureOf : List ℕ → View → List ℕ → Type 0
PictureOf bytes w text = IsPicture (IsMeant bytes) w text

-- the text is the picture, in window w, of the drawing that a FIG text reads as
abbrev pub RepaintOf : List ℕ → View → List ℕ → Type 0
RepaintOf fig w text = IsPicture (IsDenoted fig) w text

-- IsWindow says in which windows colours are to be painted, and IsShown which colours
module _ (IsWindow : View → Type 0) (IsShown : (Point → Rgb) → Type 0) where
  -- the text is the picture in such a window
  pub record IsPictureIn (text : List ℕ) : Type 0 where
    pub window : View
    pub such : IsWindow window
    pub is : IsPicture IsShown window text

  -- known bytes grow from old to new by the header and whole bands of 64 rows, fewer than all, of
  -- the picture in such a window
  pub record WritesBandsIn (old new : Option (List ℕ)) : Type 0 where
    pub window : View
    pub such : IsWindow window
    pub written : WritesBands IsShown window old new

-- what a run leaves of its sink that paints, in window w, colours that IsShown says of the bytes
-- that are left in its source
abbrev pub PaintsWindow : {W T : Type 0} → Sink W → Option (List ℕ)
    → (List ℕ → (Point → Rgb) → Type 0) → View → W → W → Result T StudioError → Type 0
PaintsWindow sink left IsShown w old new result = LeavesPicture sink left
    (λ bytes. IsPictureIn (λ v. v ≡ w) (IsShown bytes)) old new
    (λ bytes. WritesBandsIn (λ v. v ≡ w) (IsShown bytes)) result
