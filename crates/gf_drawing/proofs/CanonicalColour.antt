-- The canonical drawing's colour at a point is that of the first version that holds it, so the
-- history's.
use Rattle.std.proofs.Common.{◌≡◌, ℕ, ◌+◌, ◌≤◌, Bool, true, List, [], ◌∷◌, map, length, refl, sym}
use Rattle.std.proofs.Common.{ap, subst, ◌∙◌, inl, inr, arith}
use Rattle.std.specs.Prelude.{All, find, option_map, unwrap_or}
use Rattle.std.specs.List.{enumerate_from, list_any, range_with_len}
use Rattle.std.proofs.lemmas.Bool.{cases_Bool}
use Rattle.std.proofs.lemmas.List.Elements.{All-head, All-tail}
use Rattle.gf_plane.specs.declared.colour.Rgb.{Rgb}
use Rattle.gf_plane.specs.declared.point.Point.{Point}
use Rattle.gf_shape.specs.declared.any_shape.AnyShape.{AnyShape}
use Rattle.gf_shape.specs.Outlines.{any_outline}
use Rattle.gf_shape.specs.ShapeMeaning.{any_holds}
use Rattle.gf_shape.specs.Laws.Shapes.{any_outlines}
use Rattle.gf_plane.specs.White.{white}
use Rattle.gf_ops.specs.declared.op.Op.{Op}
use Rattle.gf_versions.specs.declared.placed.Placed.{Placed}
use Rattle.gf_versions.specs.HistoryColour.{HistoryColour}
use Rattle.gf_versions.specs.Ranking.{first_colour}
use Rattle.gf_versions.proofs.TopLemmas.{first_gives}
use Rattle.gf_figures.specs.declared.figure.Figure.{Figure}
use Rattle.gf_ops.specs.ConflictTests.{colour_eq}
use Rattle.gf_figures.specs.DrawingColour.{drawing_colour, figure_colour}
use Rattle.gf_figures.specs.DrawingState.{DrawingState}
use Rattle.gf_figures.specs.Outlined.{outlined}
use Rattle.gf_figures.proofs.DrawingLaw.{first_figure_colours}
use Rattle.gf_figures.proofs.OutlinedLemmas.{drawing_colour-outlined}
use Rattle.gf_drawing.specs.CanonicalDrawing.{IsCanonical, Paints, PaintsAsFig, colours_of}
use Rattle.gf_drawing.specs.CanonicalDrawing.{canonical_figure, canonical_figures, canonical_table}
use Rattle.gf_drawing.specs.CanonicalDrawing.{canonical_drawing}
use Rattle.gf_drawing.proofs.CompilingLemmas.{length-figures, own_colour}
use Rattle.gf_drawing.proofs.NumberLemmas.{number_gives}

-- the depths are the places
counted : {S : Type 0} → (cs : List Rgb) (n : ℕ) (items : List (Placed S))
    → map (λ (f : Figure S). f.depth)
    (map (canonical_figure cs) (enumerate_from n items)) ≡ range_with_len n (length items)
counted cs n [] = refl
counted cs n (i ∷ items) = ap (λ r. n ∷ r) (counted cs (n + 1) items)

module _ {S : Type 0} (holds : S → Point → Bool) where
  -- the first figure that holds p has the colour of the first item that does
  first_figure : (cs : List Rgb) (n : ℕ) (items : List (Placed S)) (p : Point)
      → All (λ (i : Placed S). list_any (colour_eq i.colour) cs ≡ true) items →
      unwrap_or (option_map (figure_colour (enumerate_from 32 cs))
      (find (λ (f : Figure S). holds f.shape p)
      (map (canonical_figure cs) (enumerate_from n items)))) white
      ≡ first_colour holds items p
  first_figure cs n [] p h = refl
  first_figure cs n (i ∷ items) p h =
      let Known : Placed S → Type 0 = λ j. list_any (colour_eq j.colour) cs ≡ true in
      elim (cases_Bool (holds i.shape p)) [
        | inl t ↦ rw t (ap (λ r. unwrap_or r white)
            (number_gives i.colour cs (All-head Known i items h)))
        | inr t ↦ rw t (first_figure cs (n + 1) items p (All-tail Known i items h))
      ]

  -- the canonical drawing's colour at p is that of the first item that holds p
  canonical_first : (items : List (Placed S)) (p : Point) → length items ≤ 1000
      → drawing_colour holds (canonical_table items) (canonical_figures items) p ≡ first_colour
      holds items p
  canonical_first items p few =
      let long = length-figures (colours_of items) items in
      first_figure_colours holds (canonical_table items) (canonical_figures items) p (omega arith)
      (counted (colours_of items) 0 items ∙ ap (range_with_len 0) (sym long))
      ∙ first_figure (colours_of items) 0 items p (own_colour items)

  same_first : (d : DrawingState S) (items : List (Placed S)) (p : Point)
      → d ≡ canonical_drawing items → length items ≤ 1000
      → drawing_colour holds d.table d.figures p ≡ first_colour holds items p
  same_first d items p e few = ap (λ (f : DrawingState S). drawing_colour holds f.table f.figures p)
      e ∙ canonical_first items p few

-- at every point the canonical drawing has the colour that the history means
pub canonical_colour : (h : List Op) (d : DrawingState AnyShape) → IsCanonical h d → Paints h d
canonical_colour h d canonical p =
    subst (HistoryColour h p)
    (sym (same_first any_holds d canonical.items p canonical.drawing canonical.fits.versions))
    (first_gives h p canonical.items canonical.ranked)

-- the drawing of its outlines has at every point the colour that the history means
pub canonical_colour-outlined : (h : List Op) (d : DrawingState AnyShape) → IsCanonical h d
    → PaintsAsFig h (outlined any_outline d)
canonical_colour-outlined h d canonical p =
    subst (HistoryColour h p) (sym (drawing_colour-outlined any_holds any_outline any_outlines d p))
    (canonical_colour h d canonical p)
