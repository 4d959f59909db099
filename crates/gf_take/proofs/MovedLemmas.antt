-- Taking out one of two figures that are alike leaves lists that are reordered alike.
--
-- Sketch: where the earlier one, f, is left, it still stands before the place of g (`IsMoved`).
-- What is taken out of the one list can be taken out of the other, and g in place of f
-- (`taken_moved`), so both are reordered alike (`moved_reorders`).
use Rattle.std.proofs.Common.{◌≡◌, List, [], ◌∷◌, refl, sym, ap, subst, ◌∙◌, inl, inr}
use Rattle.std.specs.Prelude.{All, ◌⊎◌, Bool}
use Rattle.std.proofs.lemmas.List.Elements.{All-head, All-tail}
use Rattle.gf_plane.specs.declared.colour.Rgb.{Rgb}
use Rattle.gf_shape.specs.declared.outline.Outline.{Outline}
use Rattle.gf_plane.specs.declared.point.Point.{Point}
use Rattle.gf_shape.specs.FigureMeaning.{outline_holds}
use Rattle.gf_shape.specs.ShapeLaws.{IsBounds, IsLawful}
use Rattle.gf_shape.specs.ShapeMeaning.{any_holds}
use Rattle.gf_versions.specs.Ranking.{form_at}
use Rattle.gf_figures.specs.declared.figure.Figure.{Figure}
use Rattle.gf_figures.specs.Colours.{Table}
use Rattle.gf_figures.specs.DrawingColour.{figure_colour}
use Rattle.gf_objects.specs.Objects.{form_of, place_of}
use Rattle.gf_take.specs.Matching.{IsTraced}
use Rattle.gf_take.specs.ShownDrawing.{CanSwap, IsReordered, TakesOut, behind, first, next}
use Rattle.gf_take.specs.ShownDrawing.{none}
use Rattle.gf_take.proofs.FrontLemmas.{shape_become_holds}

module _ (table : Table) where
  -- two lawful figures become objects of one form, place and colour
  pub record IsAlike (f g : Figure Outline) : Type 0 where
    pub form : form_of f.shape ≡ form_of g.shape
    pub place : place_of f.shape ≡ place_of g.shape
    pub colour : figure_colour table f ≡ figure_colour table g
    pub lawful : IsLawful f.shape
    pub others : IsLawful g.shape

  -- the figures of two lists are alike, one by one
  pub data AreAlike : List (Figure Outline) → List (Figure Outline) → Type 0 where
    no_more : AreAlike [] []
    both : {fs gs : List (Figure Outline)} (f g : Figure Outline) → IsAlike f g → AreAlike fs gs
        → AreAlike (f ∷ fs) (g ∷ gs)

  pub both_like : (o : Outline) (c : Rgb) (f g : Figure Outline) → IsTraced table o c f
      → IsTraced table o c g → IsAlike f g
  both_like o c f g s t = record {
    form = sym s.alike.form ∙ t.alike.form;
    place = sym s.alike.place ∙ t.alike.place;
    colour = sym s.colour ∙ t.colour;
    lawful = s.alike.lawful;
    others = t.alike.lawful;
  }

  own_like : (f : Figure Outline) → IsLawful f.shape → IsAlike f f
  own_like f lawful =
      record { form = refl; place = refl; colour = refl; lawful = lawful; others = lawful }

  -- ---- figures that are alike can be swapped with the same ones

  holds_alike : (f g : Figure Outline) → IsAlike f g → (p : Point)
      → outline_holds f.shape p ≡ outline_holds g.shape p
  holds_alike f g a p =
      sym (shape_become_holds f.shape p a.lawful)
      ∙ (ap (λ s. any_holds s p) (λ i. form_at (a.form i) (a.place i))
      ∙ shape_become_holds g.shape p a.others)

  outline_alike : (f g : Figure Outline) → IsAlike f g
      → outline_holds f.shape ≡ outline_holds g.shape
  outline_alike f g a = λ i p. holds_alike f g a p i

  pub swap_alike : (f g x : Figure Outline) → IsAlike f g → CanSwap table f x → CanSwap table g x
  swap_alike f g x a (inl same) = inl (sym a.colour ∙ same)
  swap_alike f g x a (inr apart) = inr (record {
    bounds = apart.bounds;
    others = apart.others;
    is_bounds = subst (λ (h : Point → Bool). IsBounds h apart.bounds) (outline_alike f g a)
        apart.is_bounds;
    is_others = apart.is_others;
    apart = apart.apart;
  })

  alike_swap : (f g x : Figure Outline) → IsAlike f g → CanSwap table x f → CanSwap table x g
  alike_swap f g x a (inl same) = inl (same ∙ a.colour)
  alike_swap f g x a (inr apart) = inr (record {
    bounds = apart.bounds;
    others = apart.others;
    is_bounds = apart.is_bounds;
    is_others = subst (λ (h : Point → Bool). IsBounds h apart.others) (outline_alike f g a)
        apart.is_others;
    apart = apart.apart;
  })

  -- ---- two that are taken out one after the other

  -- f is taken out of the figures, and then g leaves the rest
  record TakesBoth (f g : Figure Outline) (figures rest : List (Figure Outline)) : Type 0 where
    left : List (Figure Outline)
    taken : TakesOut table f figures left
    then : TakesOut table g left rest

  -- they are taken out in the other order
  taken_before : (f g : Figure Outline) (fs left rest : List (Figure Outline)) → CanSwap table f g
      → TakesOut table g fs left → TakesOut table f left rest → TakesBoth f g fs rest
  taken_before f g fs left rest swap (first {rest = others}) out =
      record { left = g ∷ rest; taken = behind g swap out; then = first }
  taken_before f g fs left rest swap (behind {figures = hs} {rest = others} h s other) first =
      record { left = hs; taken = first; then = other }
  taken_before f g fs left rest swap (behind {figures = hs} {rest = others} h s other)
      (behind {rest = more} x u out) =
      let w = taken_before f g hs others more swap other out in
      record { left = x ∷ w.left; taken = behind x u w.taken; then = behind x s w.then }

  -- the second list is the first with its figure f moved to where g is taken out
  pub data IsMoved (f g : Figure Outline) : List (Figure Outline) → List (Figure Outline)
      → Type 0 where
    moved : {fs gs : List (Figure Outline)} → TakesOut table g gs fs → IsMoved f g (f ∷ fs) gs
    passed : {fs gs : List (Figure Outline)} (x : Figure Outline) → IsMoved f g fs gs
        → IsMoved f g (x ∷ fs) (x ∷ gs)

  -- the figures can be reordered to be alike to others
  pub record Reorders (figures others : List (Figure Outline)) : Type 0 where
    pub order : List (Figure Outline)
    pub reordered : IsReordered table figures order
    pub alike : AreAlike others order

  module _ (f g : Figure Outline) (alike : IsAlike f g) where
    -- e is taken out of gs, and leaves what is moved of rest
    record TakesMoved (e : Figure Outline) (gs rest : List (Figure Outline)) : Type 0 where
      left : List (Figure Outline)
      taken : TakesOut table e gs left
      still : IsMoved f g rest left

    -- what is taken out before is taken out behind, or it is f, and g is taken out in its place
    taken_moved : (e : Figure Outline) (fs gs rest : List (Figure Outline)) → IsMoved f g fs gs
        → TakesOut table e fs rest → ((e ≡ f) × TakesOut table g gs rest) ⊎ TakesMoved e gs rest
    taken_moved e fs gs rest (moved out) first = inl (refl, out)
    taken_moved e fs gs rest (moved {fs = hs} out) (behind {rest = more} x u other) =
        let w = taken_before e g gs hs more (alike_swap x g e alike u) out other in
        inr (record { left = w.left; taken = w.taken; still = moved w.then })
    taken_moved e fs gs rest (passed {gs = hs} x m) first =
        inr (record { left = hs; taken = first; still = m })
    taken_moved e fs gs rest (passed {fs = ks} {gs = hs} x m) (behind {rest = more} y u other) =
        elim (taken_moved e ks hs more m other) [
          | inl w ↦ inl (
            w.0,
            behind y (swap_alike f g y alike (subst (λ z. CanSwap table z y) w.0 u)) w.1,
          )
          | inr w ↦ inr (record {
            left = y ∷ w.left;
            taken = behind y u w.taken;
            still = passed y w.still;
          })
        ]

    none_moved : (gs : List (Figure Outline)) → ¬ (IsMoved f g [] gs)
    none_moved gs m = elim m [ ]

    pub moved_reorders : (fs gs order : List (Figure Outline)) → IsMoved f g fs gs
        → All (λ (x : Figure Outline). IsLawful x.shape) order → IsReordered table fs order
        → Reorders gs order
    moved_reorders fs gs order m lawful none = absurd (none_moved gs m)
    moved_reorders fs gs order m lawful (next {rest = rest} {order = others} e out more) =
        let Lawful : Figure Outline → Type 0 = λ x. IsLawful x.shape in
        let own = All-head Lawful e others lawful in
        elim (taken_moved e fs gs rest m out) [
          | inl w ↦ record {
            order = g ∷ others;
            reordered = next g w.1 more;
            alike = both e g (subst (λ x. IsAlike x g) (sym w.0) alike)
                (all_like others (All-tail Lawful e others lawful));
          }
          | inr w ↦
              let r = moved_reorders rest w.left others w.still (All-tail Lawful e others lawful)
              more in
              record {
                order = e ∷ r.order;
                reordered = next e w.taken r.reordered;
                alike = both e e (own_like e own) r.alike;
              }
        ]
      where
        all_like : (xs : List (Figure Outline)) → All (λ (x : Figure Outline). IsLawful x.shape) xs
            → AreAlike xs xs
        all_like [] all = no_more
        all_like (x ∷ xs) all =
            let Lawful : Figure Outline → Type 0 = λ y. IsLawful y.shape in
            both x x (own_like x (All-head Lawful x xs all))
            (all_like xs (All-tail Lawful x xs all))
