-- A history that looks like a drawing shows it, and takes it by no changes.
use Rattle.std.proofs.Common.{ℕ, List, [], ◌∷◌, subst, sym}
use Rattle.std.proofs.lemmas.List.{append-nil}
use Rattle.gf_shape.specs.declared.outline.Outline.{Outline}
use Rattle.gf_ops.specs.declared.op.Op.{Op}
use Rattle.gf_ops.specs.Accepted.{AreAccepted}
use Rattle.gf_ops.specs.ValidHistory.{IsValid}
use Rattle.gf_figures.specs.declared.figure.Figure.{Figure}
use Rattle.gf_figures.specs.Colours.{Table}
use Rattle.gf_figures.specs.DrawingColour.{from_front}
use Rattle.gf_figures.specs.DrawingState.{DrawingState}
use Rattle.gf_drawing.specs.CanonicalDrawing.{PaintsAsFig}
use Rattle.gf_site.specs.MadeEach.{none as makes_none}
use Rattle.gf_take.specs.ShownDrawing.{IsReordered, LooksLike, ShowsDrawing, first, next}
use Rattle.gf_take.specs.ShownDrawing.{none}
use Rattle.gf_take.specs.Taking.{Takes}

same_order : (table : Table) (fs : List (Figure Outline)) → IsReordered table fs fs
same_order table [] = none
same_order table (f ∷ fs) = next f first (same_order table fs)

pub like_shows : (h : List Op) (d : DrawingState Outline) → LooksLike h d → ShowsDrawing h d
like_shows h d like = record {
  items = like.items;
  ranked = like.ranked;
  order = from_front d.figures;
  reordered = same_order d.table (from_front d.figures);
  same = like.same;
}

pub like_takes : (s : ℕ) (b : List Op) (d : DrawingState Outline) → AreAccepted b → IsValid b
    → LooksLike b d → PaintsAsFig b d → Takes s b [] [] d
like_takes s b d accepted valid like paints = record {
  makes = makes_none;
  accepted = subst AreAccepted (sym (append-nil b)) accepted;
  valid = subst IsValid (sym (append-nil b)) valid;
  shows = subst (λ h. ShowsDrawing h d) (sym (append-nil b)) (like_shows b d like);
  paints = subst (λ h. PaintsAsFig h d) (sym (append-nil b)) paints;
}
