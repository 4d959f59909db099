-- Layers that show what figures show.
use Rattle.std.specs.Prelude.{◌≡◌, ◌<◌, ◌+◌, ℕ, Bool, List, [], ◌∷◌, ◌++◌, map, take, length, refl}
use Rattle.std.proofs.Common.{ap, sym, inl, inr, arith, get_or, ◌∙◌}
use Rattle.std.proofs.lemmas.List.{map-append, map_more}
use Rattle.std.proofs.lemmas.Bool.{cases_Bool}
use Rattle.gf_plane.specs.declared.colour.Rgb.{Rgb}
use Rattle.gf_plane.specs.declared.point.Point.{Point}
use Rattle.gf_figures.specs.declared.figure.Figure.{Figure}
use Rattle.gf_figures.specs.Colours.{Table}
use Rattle.gf_figures.specs.DrawingColour.{figure_colour, front_colour}
use Rattle.gf_scanline.specs.declared.layer.Layer.{Layer}
use Rattle.gf_scanline.specs.Layers.{layered}
use Rattle.gf_scanline.specs.Seen.{seen, seen_figure}

pub in_two_steps : {X Y Z : Type 0} (f : X → Y) (g : Y → Z) (xs : List X)
    → map (λ x. g (f x)) xs ≡ map g (map f xs)
in_two_steps f g [] = refl
in_two_steps f g (x ∷ xs) = ap (λ ys. g (f x) ∷ ys) (in_two_steps f g xs)

-- one element more of a list that is made of what another one shows
pub shown_more : {X L Y : Type 0} (s : L → Y) (f : X → Y) (ls new : List L) (l : L) (fs : List X)
    (i : ℕ) (d : X) → i < length fs → new ≡ ls ++ l ∷ [] → map s ls ≡ map f (take i fs)
    → s l ≡ f (get_or fs i d) → map s new ≡ map f (take (i + 1) fs)
shown_more s f ls new l fs i d lt is all one = ap (map s) is
    ∙ (map-append s ls (l ∷ [])
    ∙ (ap (λ ys. ys ++ s l ∷ []) all
    ∙ (ap (λ y. map f (take i fs) ++ y ∷ []) one ∙ sym (map_more f fs i d lt))))

abbrev first : {X : Type 0} → X → List X → X
first d [] = d
first d (x ∷ xs) = x

abbrev rest : {X : Type 0} → List X → List X
rest [] = []
rest (x ∷ xs) = xs

module _ {S : Type 0} (holds : S → Point → Bool) where
  -- the layers and the figures show the same colours
  pub alike : (table : Table) (ls : List (Layer S)) (fs : List (Figure S)) (p : Point)
      → map seen ls ≡ map (seen_figure table) fs → layered holds ls p ≡ front_colour holds table fs
      p
  alike table [] [] p e = refl
  alike table (l ∷ ls) (f ∷ fs) p e =
      let same = ap (first (seen l)) e in
      let shape : l.shape.now ≡ f.shape = ap (λ (s : S × Rgb). s.0) same in
      let colour : l.brush ≡ figure_colour table f = ap (λ (s : S × Rgb). s.1) same in
      elim (cases_Bool (holds f.shape p)) [
        | inl h ↦ rw (shape, h) colour
        | inr h ↦ rw (shape, h) (alike table ls fs p (ap rest e))
      ]
  alike table ls fs p e = absurd (omega (arith, ap length e))
