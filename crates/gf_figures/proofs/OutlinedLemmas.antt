-- Painting the outlines of shapes gives the colours that painting the shapes gives.
use Rattle.std.proofs.Common.{◌≡◌, ℕ, Bool, List, [], ◌∷◌, map, reverse, refl, sym, ap, ◌∙◌, inl}
use Rattle.std.proofs.Common.{inr}
use Rattle.std.specs.Prelude.{flat_map, fold, ◌==◌, if◌then◌else◌}
use Rattle.std.specs.List.{range_with_len}
use Rattle.std.proofs.lemmas.Bool.{cases_Bool}
use Rattle.std.proofs.lemmas.List.{map-append}
use Rattle.gf_plane.specs.declared.colour.Rgb.{Rgb}
use Rattle.gf_shape.specs.declared.outline.Outline.{Outline}
use Rattle.gf_plane.specs.declared.point.Point.{Point}
use Rattle.gf_shape.specs.FigureMeaning.{outline_holds}
use Rattle.gf_shape.specs.ShapeLaws.{IsOutlineOf}
use Rattle.gf_plane.specs.White.{white}
use Rattle.gf_figures.specs.declared.figure.Figure.{Figure}
use Rattle.gf_figures.specs.Colours.{Table}
use Rattle.gf_figures.specs.DrawingColour.{drawing_colour, figure_colour, figures_at, from_back}
use Rattle.gf_figures.specs.DrawingColour.{painted}
use Rattle.gf_figures.specs.DrawingState.{DrawingState}
use Rattle.gf_figures.specs.Outlined.{figure_outlined, outlined}

module _ {S : Type 0} (holds : S → Point → Bool) (outline : S → Outline) where
  -- outlining changes no depth
  figures_at-outlined : (fs : List (Figure S)) (depth : ℕ)
      → figures_at (map (figure_outlined outline) fs) depth ≡ map (figure_outlined outline)
      (figures_at fs depth)
  figures_at-outlined [] depth = refl
  figures_at-outlined (f ∷ fs) depth = elim (cases_Bool (f.depth == depth)) [
    | inl e ↦ rw (e, figures_at-outlined fs depth)
    | inr e ↦ rw (e, figures_at-outlined fs depth)
  ]

  flat_map-outlined : (fs : List (Figure S)) (depths : List ℕ)
      → flat_map (figures_at (map (figure_outlined outline) fs)) depths ≡ map
      (figure_outlined outline) (flat_map (figures_at fs) depths)
  flat_map-outlined fs [] = refl
  flat_map-outlined fs (d ∷ ds) =
      rw (figures_at-outlined fs d, flat_map-outlined fs ds)
      (sym (map-append (figure_outlined outline) (figures_at fs d) (flat_map (figures_at fs) ds)))

  from_back-outlined : (fs : List (Figure S)) → from_back (map (figure_outlined outline) fs) ≡ map
      (figure_outlined outline) (from_back fs)
  unfolding from_back
  from_back-outlined fs = flat_map-outlined fs (reverse (range_with_len 0 1000))

  module _ (law : (s : S) → IsOutlineOf (holds s) (outline s)) where
    painted-outlined : (table : Table) (p : Point) (c : Rgb) (f : Figure S)
        → painted outline_holds table p c (figure_outlined outline f) ≡ painted holds table p c f
    painted-outlined table p c f = ap (λ held. if held then figure_colour table f else c)
        (law f.shape p)

    fold-outlined : (table : Table) (p : Point) (c : Rgb) (fs : List (Figure S))
        → fold (painted outline_holds table p) c (map (figure_outlined outline) fs) ≡ fold
        (painted holds table p) c fs
    fold-outlined table p c [] = refl
    fold-outlined table p c (f ∷ fs) =
        ap (λ below. fold (painted outline_holds table p) below (map (figure_outlined outline) fs))
        (painted-outlined table p c f)
        ∙ fold-outlined table p (painted holds table p c f) fs

    pub drawing_colour-outlined : (d : DrawingState S) (p : Point)
        → drawing_colour outline_holds (outlined outline d).table (outlined outline d).figures
        p ≡ drawing_colour holds d.table d.figures p
    drawing_colour-outlined d p =
        ap (fold (painted outline_holds d.table p) white) (from_back-outlined d.figures)
        ∙ fold-outlined d.table p white (from_back d.figures)
