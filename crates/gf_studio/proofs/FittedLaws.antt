-- Inputs with the same operations fit in one window, and so do an input and its FIG text.
use Rattle.std.proofs.Common.{◌≡◌, ◌∙◌, ◌||◌, ◌∷◌, [], Bool, List, ap, map, refl}
use Rattle.std.proofs.Common.{subst, sym, ℕ}
use Rattle.gf_shape.specs.declared.any_shape.AnyShape.{AnyShape}
use Rattle.gf_plane.specs.declared.point.Point.{Point}
use Rattle.gf_shape.specs.FigureMeaning.{outline_holds}
use Rattle.gf_shape.specs.Laws.Shapes.{any_outlines}
use Rattle.gf_shape.specs.Outlines.{any_outline}
use Rattle.gf_shape.specs.ShapeMeaning.{any_holds}
use Rattle.gf_figures.specs.declared.figure.Figure.{Figure}
use Rattle.gf_figures.specs.DrawingState.{DrawingState}
use Rattle.gf_figures.specs.Outlined.{figure_outlined, outlined}
use Rattle.gf_fig_read.specs.Objects.{Drawn}
use Rattle.gf_fig_read.proofs.GrammarLemmas.{one_drawing}
use Rattle.gf_replay.specs.Denoting.{HaveSameOperations}
use Rattle.gf_scanline.specs.Frames.{Sides}
use Rattle.gf_scanline.specs.Windows.{View}
use Rattle.gf_studio.specs.FigRun.{Draws, IsFigOf}
use Rattle.gf_studio.specs.PaintRun.{PictureOf, RepaintOf}
use Rattle.gf_studio.proofs.PaintingLemmas.{text_repaints}
use Rattle.gf_studio.proofs.SameLemmas.{draw_alike, histories_draw, paint_alike}
use Rattle.gf_studio.specs.PictureRun.{FitsLines, FitsText}
use Rattle.gf_fit.specs.FittedWindow.{IsFitted, held}
use Rattle.gf_fit.proofs.FittingLemmas.{one_window}

-- w fits a drawing of shapes, or of outlines
abbrev FitsShapes : Sides → View → DrawingState AnyShape → Type 0
FitsShapes frame w d = IsFitted (held any_holds d.figures) frame w

abbrev FitsOutlines : Sides → View → Drawn → Type 0
FitsOutlines frame w d = IsFitted (held outline_holds d.figures) frame w

module _ (bytes others : List ℕ) (have : HaveSameOperations bytes others) (frame : Sides)
    (v w : View) (x : FitsLines bytes frame v) (y : FitsLines others frame w) where
  pub fit_alike : v ≡ w
  fit_alike =
      let same = draw_alike bytes others have x.drawing y.drawing x.drawn y.drawn in
      one_window (held any_holds y.drawing.figures) frame v w
      (subst (FitsShapes frame v) same x.fitted) y.fitted

  pub fit_alike-picture : (text other : List ℕ) → PictureOf bytes v text
      → PictureOf others w other → text ≡ other
  fit_alike-picture text other p q = paint_alike bytes others have w text other
      (subst (λ z. PictureOf bytes z text) fit_alike p) q

-- outlines hold what their shapes hold
held_outlined : (fs : List (Figure AnyShape)) (p : Point)
    → held any_holds fs p ≡ held outline_holds (map (figure_outlined any_outline) fs) p
held_outlined [] p = refl
held_outlined (f ∷ fs) p =
    ap (λ (x : Bool). x || held any_holds fs p) (sym (any_outlines f.shape p))
    ∙ ap (λ (x : Bool). outline_holds (any_outline f.shape) p || x) (held_outlined fs p)

outlines_fit : (frame : Sides) (w : View) (d : DrawingState AnyShape) → FitsShapes frame w d
    → FitsOutlines frame w (outlined any_outline d)
outlines_fit frame w d =
    subst (λ h. IsFitted h frame w) (λ k p. held_outlined d.figures p k)

module _ (bytes fig : List ℕ) (x : IsFigOf bytes fig) (frame : Sides) (v w : View)
    (y : FitsLines bytes frame v) (z : FitsText fig frame w) where
  -- the text reads as the outlines of what the bytes draw
  text_drawing : outlined any_outline x.drawing ≡ z.drawing
  text_drawing = one_drawing fig (outlined any_outline x.drawing) z.drawing x.reads z.reads

  drawing_same : (other : DrawingState AnyShape) → Draws bytes other → x.drawing ≡ other
  drawing_same other drawn =
      let h = x.drawn.history in
      let denoted = x.drawn.denoted in
      histories_draw bytes bytes h h denoted denoted (λ a. (λ i. i, λ i. i)) x.drawing
      other x.drawn drawn

  pub text_fits : v ≡ w
  text_fits =
      let same = sym (drawing_same y.drawing y.drawn) in
      let shapes = subst (FitsShapes frame v) same y.fitted in
      let outlines = outlines_fit frame v x.drawing shapes in
      one_window (held outline_holds z.drawing.figures) frame v w
      (subst (FitsOutlines frame v) text_drawing outlines) z.fitted

  pub text_fits-picture : (text other : List ℕ) → PictureOf bytes v text → RepaintOf fig w other
      → text ≡ other
  text_fits-picture text other p q =
      let there = subst (λ z. PictureOf bytes z text) text_fits p in
      let same = drawing_same there.shown.drawing there.shown.drawn in
      text_repaints bytes fig x w text other there same q
