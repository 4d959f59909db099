-- The colour of a drawing at a point is that of the figure in front there; where the i-th figure
-- has depth i, that is the first that holds the point.
use Rattle.std.proofs.Common.{◌≡◌, ℕ, ◌+◌, ◌≤◌, ◌<◌, Bool, false, ◌&&◌, List, [], ◌∷◌, map, length}
use Rattle.std.proofs.Common.{get_or, refl, ap, ◌∙◌, inl, inr, arith}
use Rattle.std.specs.Prelude.{All, fold, find, nat_le, option_map, unwrap_or, None, Some}
use Rattle.std.specs.List.{range_with_len}
use Rattle.std.proofs.lemmas.Bool.{cases_Bool}
use Rattle.std.proofs.lemmas.Bool.Decides.{nat_tests}
use Rattle.std.proofs.lemmas.List.Elements.{All-nil, All-cons}
use Rattle.gf_plane.specs.declared.point.Point.{Point}
use Rattle.gf_plane.specs.White.{white}
use Rattle.gf_figures.specs.declared.figure.Figure.{Figure}
use Rattle.gf_figures.specs.Colours.{Table}
use Rattle.gf_figures.specs.DrawingColour.{drawing_colour, figure_colour, from_back}
use Rattle.gf_figures.specs.FrontMost.{front_at, nearer}
use Rattle.gf_figures.specs.DrawingState.{IsLawfulFigure}
use Rattle.gf_figures.proofs.Painting.{back, over, shown, front_shows}

module _ {F : Type 0} (depth : F → ℕ) where
  -- the depths of fs are m and the numbers that follow
  abbrev pub CountsFrom : ℕ → List F → Type 0
  CountsFrom m fs = map depth fs ≡ range_with_len m (length fs)

  All-below : (m k : ℕ) (fs : List F) → CountsFrom m fs → m + length fs ≤ k
      → All (λ f. depth f < k) fs
  All-below m k [] e l = All-nil (λ f. depth f < k)
  All-below m k (f ∷ fs) e l =
      let a : depth f ≡ m = cc in
      let b : CountsFrom (m + 1) fs = cc in
      All-cons (λ f. depth f < k) f fs (omega arith) (All-below (m + 1) k fs b (omega arith))

  module _ (holds : F → Bool) where
    -- what is deeper does not take the place of g
    front_stays : (g : F) (m : ℕ) (fs : List F) → depth g < m → CountsFrom m fs
        → fold (nearer depth holds) (Some g) fs ≡ Some g
    front_stays g m [] l e = refl
    front_stays g m (f ∷ fs) l e =
        let a : depth f ≡ m = cc in
        let b : CountsFrom (m + 1) fs = cc in
        let t : (holds f && nat_le (depth f) (depth g)) ≡ false = grind (arith, nat_tests) in
        rw t (front_stays g (m + 1) fs (omega arith) b)

    front_first : (m : ℕ) (fs : List F) → CountsFrom m fs
        → fold (nearer depth holds) None fs ≡ find holds fs
    front_first m [] e = refl
    front_first m (f ∷ fs) e =
        let a : depth f ≡ m = cc in
        let b : CountsFrom (m + 1) fs = cc in
        elim (cases_Bool (holds f)) [
          | inl h ↦ rw h (front_stays f (m + 1) fs (omega arith) b)
          | inr h ↦ rw h (front_first (m + 1) fs b)
        ]

    -- painting k depths from the back leaves the colour of the first that holds, or c
    pub first_shows : {C : Type 0} (colour : F → C) (fs : List F) (k : ℕ) (c : C) → CountsFrom 0 fs
        → length fs ≤ k →
        fold (over depth holds colour) c (back depth fs 0 k) ≡ shown depth holds colour c
        (find holds fs)
    first_shows colour fs k c e l =
        front_shows depth holds colour fs k c (All-below 0 k fs e (omega arith))
        ∙ ap (shown depth holds colour c) (front_first 0 fs e)

pub lawful_depth : {S : Type 0} → (table : Table) (f : Figure S) → IsLawfulFigure table f
    → f.depth < 1000
lawful_depth table f h = grind (arith, nat_tests)

module _ {S : Type 0} (holds : S → Point → Bool) where
  -- the colour at p is that of the first figure that holds p, or white
  pub first_figure_colours : (table : Table) (figures : List (Figure S)) (p : Point)
      → length figures ≤ 1000 →
      map (λ (f : Figure S). f.depth) figures ≡ range_with_len 0 (length figures) →
      drawing_colour holds table figures p ≡ unwrap_or
      (option_map (figure_colour table) (find (λ (f : Figure S). holds f.shape p) figures)) white
  unfolding from_back
  first_figure_colours table figures p few e =
      first_shows (λ (f : Figure S). f.depth) (λ (f : Figure S). holds f.shape p)
      (figure_colour table) figures 1000 white e few

  -- the colour at p is that of the figure in front there, or white
  pub front_figure_colours : (table : Table) (figures : List (Figure S)) (p : Point)
      → All (IsLawfulFigure table) figures →
      drawing_colour holds table figures p ≡ unwrap_or
      (option_map (figure_colour table) (front_at holds p figures)) white
  unfolding from_back
  front_figure_colours table figures p lawful =
      front_shows (λ (f : Figure S). f.depth) (λ (f : Figure S). holds f.shape p)
      (figure_colour table) figures 1000 white
      (λ k d l. lawful_depth table (get_or figures k d) (lawful k d l))
