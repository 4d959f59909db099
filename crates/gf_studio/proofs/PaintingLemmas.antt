-- What some bytes draw is painted in the colours that they mean, and so is the FIG text of it.
use Rattle.std.specs.Prelude.{IfOk, IfSome, None, Option, Some}
use Rattle.std.proofs.Common.{◌≡◌, ℕ, List, Result, Ok, Err, sym, ap, ◌∙◌}
use Rattle.gf_shape.specs.declared.any_shape.AnyShape.{AnyShape}
use Rattle.gf_plane.specs.declared.colour.Rgb.{Rgb}
use Rattle.gf_plane.specs.declared.point.Point.{Point}
use Rattle.gf_shape.specs.FigureMeaning.{outline_holds}
use Rattle.gf_shape.specs.Laws.Shapes.{any_outlines}
use Rattle.gf_shape.specs.Outlines.{any_outline}
use Rattle.gf_shape.specs.ShapeMeaning.{any_holds}
use Rattle.gf_versions.proofs.TopLemmas.{one_colour}
use Rattle.gf_figures.specs.DrawingColour.{drawing_colour}
use Rattle.gf_figures.specs.DrawingState.{DrawingState}
use Rattle.gf_figures.specs.Outlined.{outlined}
use Rattle.gf_figures.proofs.OutlinedLemmas.{drawing_colour-outlined}
use Rattle.gf_fig_read.specs.FigGrammar.{Fails}
use Rattle.gf_fig_read.specs.Objects.{Drawn}
use Rattle.gf_fig_tokens.specs.declared.faults.FigFault.{FigFault}
use Rattle.gf_fig_read.proofs.GrammarLemmas.{not_both, one_drawing}
use Rattle.gf_scanline.specs.Picture.{picture}
use Rattle.gf_scanline.specs.Windows.{View}
use Rattle.gf_studio.specs.declared.drawings.DrawnLines.{DrawnLines}
use Rattle.gf_run.specs.declared.studio_error.StudioError.{StudioError}
use Rattle.gf_studio.specs.FigRun.{Draws, IsFigOf}
use Rattle.gf_studio.specs.PaintRun.{IsDenoted, IsMeant, PictureOf, RepaintOf}

drawn_meant : (bytes : List ℕ) (drawing : DrawingState AnyShape) → Draws bytes drawing
    → IsMeant bytes (drawing_colour any_holds drawing.table drawing.figures)
drawn_meant bytes drawing drawn = record {
  drawing = drawing;
  drawn = drawn;
  means = drawn.such.colours;
}

pub left_meant : (left : Option (List ℕ)) (r : Result DrawnLines StudioError)
    → IfOk r (λ d. IfSome left (λ bytes. Draws bytes d.drawing))
    → IfOk r (λ d. IfSome left
    (λ bytes. IsMeant bytes (drawing_colour any_holds d.drawing.table d.drawing.figures)))
left_meant None (Ok d) drawn = tt
left_meant (Some bytes) (Ok d) drawn = drawn_meant bytes d.drawing drawn
left_meant left (Err e) drawn = tt

-- colours that are one at every point make one picture
pub one_picture : (w : View) (colour other : Point → Rgb) → ((p : Point) → colour p ≡ other p)
    → picture colour w ≡ picture other w
one_picture w colour other same = let one : colour ≡ other = λ i p. same p i in
    ap (λ c. picture c w) one

-- what is meant is what the drawing paints
drawn_colour : (bytes : List ℕ) (colour : Point → Rgb) (x : IsMeant bytes colour) (p : Point)
    → colour p ≡ drawing_colour any_holds x.drawing.table x.drawing.figures p
drawn_colour bytes colour x p =
    one_colour x.drawn.history p (colour p)
    (drawing_colour any_holds x.drawing.table x.drawing.figures p) x.drawn.denoted.delivers.valid
    (x.means p) (x.drawn.such.colours p)

-- inputs with one drawing mean one colour at every point
pub drawn_colours : (bytes others : List ℕ) (colour other : Point → Rgb) (x : IsMeant bytes colour)
    (y : IsMeant others other) → x.drawing ≡ y.drawing → (p : Point) → colour p ≡ other p
drawn_colours bytes others colour other x y same p =
    drawn_colour bytes colour x p
    ∙ (ap (λ (d : DrawingState AnyShape). drawing_colour any_holds d.table d.figures p) same
    ∙ sym (drawn_colour others other y p))

-- the FIG text of what the bytes draw
module _ (bytes fig : List ℕ) (x : IsFigOf bytes fig) where
  -- the text does not fail
  pub text_not_refused : (fault : FigFault) (n : ℕ) → ¬ (Fails fig fault n)
  text_not_refused fault n = not_both fig (outlined any_outline x.drawing) fault n x.reads

  -- the text denotes the colours that the bytes mean
  text_colours : (colour other : Point → Rgb) (y : IsMeant bytes colour) → x.drawing ≡ y.drawing
      → IsDenoted fig other → (p : Point) → colour p ≡ other p
  text_colours colour other y same z p =
      let d = x.drawing in
      let read : outlined any_outline d ≡ z.drawing = one_drawing fig (outlined any_outline d)
      z.drawing x.reads z.reads in
      drawn_colour bytes colour y p
      ∙ (ap (λ (d : DrawingState AnyShape). drawing_colour any_holds d.table d.figures p) (sym same)
      ∙ (sym (drawing_colour-outlined any_holds any_outline any_outlines d p)
      ∙ (ap (λ (d : Drawn). drawing_colour outline_holds d.table d.figures p) read
      ∙ sym (z.paints p))))

  pub text_repaints : (w : View) (text other : List ℕ) (y : PictureOf bytes w text)
      → x.drawing ≡ y.shown.drawing → RepaintOf fig w other → text ≡ other
  text_repaints w text other y same z =
      let colours = text_colours y.colour z.colour y.shown same z.shown in
      y.is ∙ (one_picture w y.colour z.colour colours ∙ sym z.is)
