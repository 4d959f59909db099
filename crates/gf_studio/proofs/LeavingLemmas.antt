-- In which windows a run paints, and what it has written there.
use Rattle.std.specs.Prelude.{IfSome, None, Option, Some}
use Rattle.std.proofs.Common.{◌≡◌, List, refl, ℕ}
use Rattle.std.specs.Io.KnownBytes.{Appends}
use Rattle.gf_shape.specs.declared.any_shape.AnyShape.{AnyShape}
use Rattle.gf_plane.specs.declared.colour.Rgb.{Rgb}
use Rattle.gf_plane.specs.declared.point.Point.{Point}
use Rattle.gf_shape.specs.FigureMeaning.{outline_holds}
use Rattle.gf_shape.specs.ShapeMeaning.{any_holds}
use Rattle.gf_figures.specs.DrawingColour.{drawing_colour}
use Rattle.gf_figures.specs.DrawingState.{DrawingState}
use Rattle.gf_streams.specs.Taken.{AppendsPrefix}
use Rattle.gf_fig_read.specs.FigGrammar.{Reads}
use Rattle.gf_fig_read.specs.Objects.{Drawn}
use Rattle.gf_fit.specs.FittedWindow.{held}
use Rattle.gf_scanline.specs.Picture.{header, picture}
use Rattle.gf_scanline.specs.Windows.{View}
use Rattle.gf_raster.specs.Bands.{HasBands}
use Rattle.gf_studio.specs.declared.painting.Extent.{Extent}
use Rattle.gf_studio.specs.declared.painting.Extent.TheVariants as extent
use Rattle.gf_studio.specs.declared.painting.Format.{Format}
use Rattle.gf_studio.specs.declared.painting.Format.TheVariants as format
use Rattle.gf_studio.specs.FigRun.{Draws}
use Rattle.gf_studio.specs.PaintRun.{IsMeant, WritesPicture}
use Rattle.gf_studio.specs.PictureParts.{IsWindowOver}
use Rattle.gf_studio.specs.PictureRun.{IsShownBy, IsWindowOf, PaintsBands, PaintsInput}
use Rattle.gf_run.specs.RunAnswers.{WritesPrefix}

-- a window over a drawing is one of what has this drawing
pub window_of_lines : (bytes : List ℕ) (d : DrawingState AnyShape) (e : Extent) (w : View)
    → Draws bytes d → IsWindowOver (held any_holds d.figures) e w → IsWindowOf format.Lines e bytes w
window_of_lines bytes d (extent.Window v) w drawn over = over
window_of_lines bytes d (extent.Fitted frame) w drawn over =
    record { drawing = d; drawn = drawn; fitted = over }

pub window_of_fig : (text : List ℕ) (d : Drawn) (e : Extent) (w : View)
    → Reads text d → IsWindowOver (held outline_holds d.figures) e w → IsWindowOf format.Fig e text w
window_of_fig text d (extent.Window v) w reads over = over
window_of_fig text d (extent.Fitted frame) w reads over =
    record { drawing = d; reads = reads; fitted = over }

-- of an input of format f with these bytes left, the picture in w of these colours is asked for
pub record IsAsked (f : Format) (e : Extent) (left : Option (List ℕ)) (w : View)
    (colour : Point → Rgb) : Type 0 where
  pub such : IfSome left (λ bytes. IsWindowOf f e bytes w)
  pub shown : IfSome left (λ bytes. IsShownBy f bytes colour)

pub asked_lines : (f : Format) (e : Extent) (left : Option (List ℕ)) (w : View)
    (d : DrawingState AnyShape) → f ≡ format.Lines → IfSome left (λ bytes. Draws bytes d)
    → IfSome left (λ bytes. IsMeant bytes (drawing_colour any_holds d.table d.figures))
    → IsWindowOver (held any_holds d.figures) e w
    → IsAsked f e left w (drawing_colour any_holds d.table d.figures)
asked_lines f e left w d is drawn meant over =
    rw is (record { such = such left drawn; shown = meant })
  where
    such : (left : Option (List ℕ)) → IfSome left (λ bytes. Draws bytes d)
        → IfSome left (λ bytes. IsWindowOf format.Lines e bytes w)
    such None drawn = tt
    such (Some bytes) drawn = window_of_lines bytes d e w drawn over

pub asked_fig : (f : Format) (e : Extent) (left : Option (List ℕ)) (w : View)
    (d : Drawn) → f ≡ format.Fig → IfSome left (λ text. Reads text d)
    → IsWindowOver (held outline_holds d.figures) e w
    → IsAsked f e left w (drawing_colour outline_holds d.table d.figures)
asked_fig f e left w d is reads over =
    rw is (asked left reads)
  where
    asked : (left : Option (List ℕ)) → IfSome left (λ text. Reads text d)
        → IsAsked format.Fig e left w (drawing_colour outline_holds d.table d.figures)
    asked None reads = record { such = tt; shown = tt }
    asked (Some text) reads = record {
      such = window_of_fig text d e w reads over;
      shown = record { drawing = d; reads = reads; paints = λ p. refl };
    }

-- such a picture, or a part of it, is written
module _ (f : Format) (e : Extent) (w : View) (colour : Point → Rgb) (old new : Option (List ℕ)) where
  pub whole : (left : Option (List ℕ)) → IsAsked f e left w colour
      → Appends old new (picture colour w)
      → IfSome left (λ bytes. WritesPicture (IsShownBy f bytes) w old new)
  whole None asked written = tt
  whole (Some bytes) asked written = record {
    text = picture colour w;
    is = record { colour = colour; shown = asked.shown; is = refl };
    written = written;
  }

  pub prefix : (left : Option (List ℕ)) → IsAsked f e left w colour
      → AppendsPrefix old new (picture colour w)
      → IfSome left (λ bytes. WritesPrefix (PaintsInput f e bytes) old new)
  prefix None asked written = tt
  prefix (Some bytes) asked written = record {
    text = picture colour w;
    is = record {
      window = w;
      such = asked.such;
      is = record { colour = colour; shown = asked.shown; is = refl };
    };
    written = written;
  }

  pub bands : (left : Option (List ℕ)) → IsAsked f e left w colour
      → HasBands (header w) colour w old new
      → IfSome left (λ bytes. PaintsBands f e bytes old new)
  bands None asked written = tt
  bands (Some bytes) asked written = record {
    window = w;
    such = asked.such;
    written = record { colour = colour; shown = asked.shown; written = written };
  }
