-- Inputs with the same operations, and those that denote histories of the same operations, have one
-- drawing, one text and one picture.
use Rattle.std.proofs.Common.{◌≡◌, ℕ, List, sym, ap, ◌∙◌}
use Rattle.gf_shape.specs.declared.any_shape.AnyShape.{AnyShape}
use Rattle.gf_shape.specs.Outlines.{any_outline}
use Rattle.gf_ops.specs.declared.op.Op.{Op}
use Rattle.gf_causal.specs.DeliveredPart.{HaveSame}
use Rattle.gf_figures.specs.DrawingState.{DrawingState}
use Rattle.gf_fig_write.specs.FigText.{fig_text}
use Rattle.gf_scanline.specs.Windows.{View}
use Rattle.gf_replay.specs.Denoting.{Denotes, HaveSameOperations}
use Rattle.gf_replay.proofs.SameLemmas.{denote_alike, one_history}
use Rattle.gf_studio.specs.FigRun.{Draws, IsFigOf}
use Rattle.gf_studio.specs.PaintRun.{PictureOf}
use Rattle.gf_studio.proofs.DrawnLemmas.{both_canonical, drawn, one_drawing}
use Rattle.gf_studio.proofs.PaintingLemmas.{drawn_colours, one_picture}

-- inputs that denote histories of the same operations have one drawing
module _ (bytes others : List ℕ) (h k : List Op) (d : Denotes bytes h) (e : Denotes others k)
    (same : HaveSame h k) where
  histories_alike : (drawing other : DrawingState AnyShape) (x : Draws bytes drawing)
      (y : Draws others other) → HaveSame x.history y.history
  histories_alike drawing other x y a =
      let first = one_history bytes x.history h x.denoted d a in
      let second = one_history others k y.history e y.denoted a in
      (λ i. second.0 ((same a).0 (first.0 i)), λ i. first.1 ((same a).1 (second.1 i)))

  pub histories_draw : (drawing other : DrawingState AnyShape) → Draws bytes drawing
      → Draws others other → drawing ≡ other
  histories_draw drawing other x y = one_drawing x.history y.history
      (histories_alike drawing other x y) drawing other x.such.canonical y.such.canonical

  -- what the one draws, the other draws
  pub histories_draw_both : (drawing : DrawingState AnyShape) → Draws bytes drawing
      → Draws others drawing
  histories_draw_both drawing x =
      let first = one_history bytes x.history h x.denoted d in
      let canonical = both_canonical x.history k
      (λ a. (λ i. (same a).0 ((first a).0 i), λ i. (first a).1 ((same a).1 i))) drawing
      x.such.canonical in
      record { history = k; denoted = e; such = drawn k drawing canonical }

  -- and one text
  pub histories_write : (text other : List ℕ) → IsFigOf bytes text → IsFigOf others other
      → text ≡ other
  histories_write text other x y =
      let same = histories_draw x.drawing y.drawing x.drawn y.drawn in
      x.is ∙ (ap (fig_text any_outline) same ∙ sym y.is)

  -- and one picture
  pub histories_paint : (w : View) (text other : List ℕ) → PictureOf bytes w text
      → PictureOf others w other → text ≡ other
  histories_paint w text other x y =
      let same = histories_draw x.shown.drawing y.shown.drawing x.shown.drawn y.shown.drawn in
      let colours = drawn_colours bytes others x.colour y.colour x.shown y.shown same in
      x.is ∙ (one_picture w x.colour y.colour colours ∙ sym y.is)

-- inputs with the same operations draw alike
pub draw_alike : (bytes others : List ℕ) → HaveSameOperations bytes others
    → (drawing other : DrawingState AnyShape) → Draws bytes drawing → Draws others other
    → drawing ≡ other
draw_alike bytes others have drawing other d e =
    histories_draw bytes others d.history d.history d.denoted
    (denote_alike bytes others have d.history d.denoted) (λ a. (λ i. i, λ i. i)) drawing other d e

pub write_alike : (bytes others : List ℕ) → HaveSameOperations bytes others
    → (text other : List ℕ) → IsFigOf bytes text → IsFigOf others other → text ≡ other
write_alike bytes others have text other d e =
    let h = d.drawn.history in
    histories_write bytes others h h d.drawn.denoted
    (denote_alike bytes others have h d.drawn.denoted) (λ a. (λ i. i, λ i. i)) text other d e

pub paint_alike : (bytes others : List ℕ) → HaveSameOperations bytes others
    → (w : View) (text other : List ℕ) → PictureOf bytes w text → PictureOf others w other
    → text ≡ other
paint_alike bytes others have w text other d e =
    let x = d.shown.drawn in
    histories_paint bytes others x.history x.history x.denoted
    (denote_alike bytes others have x.history x.denoted) (λ a. (λ i. i, λ i. i)) w text other d e
