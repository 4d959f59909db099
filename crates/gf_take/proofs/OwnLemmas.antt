-- A history shows its own drawing.
use Rattle.std.proofs.Common.{◌≡◌, ℕ, ◌+◌, ◌≤◌, ◌<◌, List, [], ◌∷◌, map, reverse, eqb, refl, sym}
use Rattle.std.proofs.Common.{length, true}
use Rattle.std.proofs.Common.{ap, subst, ◌∙◌, inl, inr, arith}
use Rattle.std.specs.Prelude.{All, ⊤, unwrap_or}
use Rattle.std.specs.List.{enumerate_from, list_any, range_with_len}
use Rattle.std.proofs.lemmas.Bool.{cases_Bool, eqb-true}
use Rattle.std.proofs.lemmas.List.Elements.{All-cons, All-head, All-nil, All-tail, All-weaker}
use Rattle.gf_shape.specs.declared.any_shape.AnyShape.{AnyShape}
use Rattle.gf_plane.specs.declared.colour.Rgb.{Rgb}
use Rattle.gf_shape.specs.declared.outline.Outline.{Outline}
use Rattle.gf_shape.specs.Outlines.{any_outline}
use Rattle.gf_plane.specs.White.{white}
use Rattle.gf_ops.specs.declared.op.Op.{Op}
use Rattle.gf_ops.specs.ConflictTests.{colour_eq}
use Rattle.gf_ops.specs.ValidHistory.{IsValid}
use Rattle.gf_versions.specs.declared.placed.Placed.{Placed}
use Rattle.gf_versions.specs.Ranking.{AreRanked}
use Rattle.gf_figures.specs.declared.figure.Figure.{Figure}
use Rattle.gf_figures.specs.Colours.{Table}
use Rattle.gf_figures.specs.DrawingColour.{figures_at, from_back}
use Rattle.gf_figures.specs.DrawingState.{DrawingState}
use Rattle.gf_figures.specs.Outlined.{figure_outlined, outlined}
use Rattle.gf_figures.proofs.SortedLemmas.{at, comes_first, flat_map-reverse, flat_map-same}
use Rattle.gf_figures.proofs.SortedLemmas.{in_turn}
use Rattle.gf_figures.proofs.SortedLemmas.{empty_turn, none_at}
use Rattle.gf_drawing.specs.CanonicalDrawing.{IsCanonical, canonical_figure}
use Rattle.gf_drawing.specs.CanonicalDrawing.{canonical_drawing, canonical_figures}
use Rattle.gf_drawing.specs.CanonicalDrawing.{canonical_table, colours_of}
use Rattle.gf_drawing.proofs.CompilingLemmas.{own_colour}
use Rattle.gf_drawing.proofs.NumberLemmas.{number_gives}
use Rattle.gf_fig_named.specs.NamedText.{IsNamedText}
use Rattle.gf_fig_named.specs.Raised.{figure_raised, named_depth, drawing_raised}
use Rattle.gf_fig_named.proofs.RaisedLemmas.{IsRising, named_fits, named_rises}
use Rattle.gf_take.specs.ShownDrawing.{IsReordered, ShowsDrawing, first, look_at, look_of, next}
use Rattle.gf_take.specs.ShownDrawing.{none, shape_become}
use Rattle.gf_take.proofs.AgainLemmas.{items_again}

module _ {F : Type 0} (depth : F → ℕ) where
  -- each depth is above those before it, from m on
  abbrev Rises : ℕ → List F → Type 0
  Rises m [] = ⊤
  Rises m (f ∷ fs) = (m ≤ depth f) × Rises (depth f + 1) fs

  above : (m : ℕ) (fs : List F) → Rises m fs → All (λ g. m ≤ depth g) fs
  above m [] r = All-nil (λ g. m ≤ depth g)
  above m (f ∷ fs) r =
      let l = r.0 in
      All-cons (λ g. m ≤ depth g) f fs l
      (All-weaker (λ g. depth f + 1 ≤ depth g) (λ g. m ≤ depth g) (λ g w. omega arith) fs
      (above (depth f + 1) fs r.1))

  rising_in_turn : (m : ℕ) (fs : List F) (k : ℕ) → Rises m fs → All (λ f. depth f < k) fs
      → in_turn depth fs 0 k ≡ fs
  rising_in_turn m [] k r w = empty_turn depth 0 k
  rising_in_turn m (f ∷ fs) k r w =
      let less = All-weaker (λ g. depth f + 1 ≤ depth g) (λ g. depth f ≤ depth g)
      (λ g l. omega arith) fs (above (depth f + 1) fs r.1) in
      comes_first depth f fs 0 k less (omega arith)
      (let u = All-head (λ g. depth g < k) f fs w in omega arith)
      ∙ ap (λ l. f ∷ l)
      (rising_in_turn (depth f + 1) fs k r.1 (All-tail (λ g. depth g < k) f fs w))

  -- of each depth there is one at most
  one_each : (m : ℕ) (fs : List F) → Rises m fs → (d : ℕ)
      → reverse (at depth fs d) ≡ at depth fs d
  one_each m [] r d = refl
  one_each m (f ∷ fs) r d = elim (cases_Bool (eqb (depth f) d)) [
    | inl e ↦
        let q = eqb-true (depth f) d e in
        let none = none_at depth d fs
        (All-weaker (λ g. depth f + 1 ≤ depth g) (λ g. d < depth g) (λ g l. omega arith) fs
        (above (depth f + 1) fs r.1)) in
        rw (e, none) refl
    | inr e ↦ rw e (one_each (depth f + 1) fs r.1 d)
  ]

-- figures of rising depths stand from the front to the back
rising_front : (figures : List (Figure Outline)) (m : ℕ)
    → Rises (λ (f : Figure Outline). f.depth) m figures
    → All (λ (f : Figure Outline). f.depth < 1000) figures → reverse (from_back figures) ≡ figures
unfolding from_back
rising_front figures m r w =
    flat_map-reverse (figures_at figures) (range_with_len 0 1000)
    ∙ (flat_map-same (λ d. reverse (figures_at figures d)) (figures_at figures)
    (one_each (λ (f : Figure Outline). f.depth) m figures r) (range_with_len 0 1000)
    ∙ rising_in_turn (λ (f : Figure Outline). f.depth) m figures 1000 r w)

module _ (g : ℕ → ℕ) (rising : IsRising g) (cs : List Rgb) where
  -- the figures of the items from the n-th on, each at the depth that g gives for its number
  abbrev own_figures : ℕ → List (Placed AnyShape) → List (Figure Outline)
  own_figures n items =
      map (figure_outlined any_outline)
      (map (figure_raised g) (map (canonical_figure cs) (enumerate_from n items)))

  own_rises : (m n : ℕ) (items : List (Placed AnyShape)) → m ≤ g n
      → Rises (λ (f : Figure Outline). f.depth) m (own_figures n items)
  own_rises m n [] l = tt
  own_rises m n (i ∷ items) l =
      (l, own_rises (g n + 1) (n + 1) items (let k = rising n (n + 1) (omega arith) in omega arith))

  own_within : (count : ℕ) → ((k : ℕ) → k < count → g k < 1000) → (n : ℕ)
      (items : List (Placed AnyShape)) → n + length items ≤ count
      → All (λ (f : Figure Outline). f.depth < 1000) (own_figures n items)
  own_within count least n [] l = All-nil (λ (f : Figure Outline). f.depth < 1000)
  own_within count least n (i ∷ items) l =
      All-cons (λ (f : Figure Outline). f.depth < 1000) _ (own_figures (n + 1) items)
      (least n (omega arith)) (own_within count least (n + 1) items (omega arith))

  own_looks : (n : ℕ) (items : List (Placed AnyShape))
      → All (λ (i : Placed AnyShape). list_any (colour_eq i.colour) cs ≡ true) items
      → All (λ (i : Placed AnyShape). shape_become (any_outline i.shape) ≡ i.shape) items
      → map look_at items ≡ map (look_of (enumerate_from 32 cs)) (own_figures n items)
  own_looks n [] known again = refl
  own_looks n (i ∷ items) known again =
      let Known : Placed AnyShape → Type 0 = λ j. list_any (colour_eq j.colour) cs ≡ true in
      let Again : Placed AnyShape → Type 0 = λ j. shape_become (any_outline j.shape) ≡ j.shape in
      let shape = All-head Again i items again in
      let colour = ap (λ r. unwrap_or r white)
      (number_gives i.colour cs (All-head Known i items known)) in
      let others = own_looks (n + 1) items (All-tail Known i items known)
      (All-tail Again i items again) in
      λ k. (sym shape k, sym colour k) ∷ others k

-- no figure is moved
reordered_same : (table : Table) (fs : List (Figure Outline)) → IsReordered table fs fs
reordered_same table [] = none
reordered_same table (f ∷ fs) = next f first (reordered_same table fs)

-- a history shows its own drawing, at depths that rise
raised_shown : (h : List Op) (items : List (Placed AnyShape)) (g : ℕ → ℕ) → IsValid h
    → AreRanked h items → IsRising g → ((k : ℕ) → k < length items → g k < 1000)
    → ShowsDrawing h (outlined any_outline (drawing_raised g (canonical_drawing items)))
raised_shown h items g valid ranked rising within =
    let cs = colours_of items in
    let figures = own_figures g rising cs 0 items in
    record {
      items = items;
      ranked = ranked;
      order = figures;
      reordered = subst (λ l. IsReordered (canonical_table items) l figures)
          (sym (rising_front figures 0 (own_rises g rising cs 0 0 items (omega arith))
          (own_within g rising cs (length items) within 0 items (omega arith))))
          (reordered_same (canonical_table items) figures);
      same = own_looks g rising cs 0 items (own_colour items) (items_again h valid items ranked);
    }

-- also where it is its named text's
pub named_drawing_shown : (h : List Op) (text : List ℕ) → IsValid h → (named : IsNamedText h text)
    → ShowsDrawing h (outlined any_outline
    (drawing_raised (named_depth (length named.items)) (canonical_drawing named.items)))
named_drawing_shown h text valid named =
    let count = length named.items in
    raised_shown h named.items (named_depth count) valid named.ranked (named_rises count)
    (λ k l. let most = named_fits count k named.fits.versions l in omega arith)

raised_own : (fs : List (Figure AnyShape)) → map (figure_raised (λ n. n)) fs ≡ fs
raised_own [] = refl
raised_own (f ∷ fs) = ap (λ l. f ∷ l) (raised_own fs)

pub own_drawing_shown : (h : List Op) (d : DrawingState AnyShape) → IsValid h → IsCanonical h d
    → ShowsDrawing h (outlined any_outline d)
own_drawing_shown h d valid c =
    let most = c.fits.versions in
    subst (λ (k : DrawingState AnyShape). ShowsDrawing h (outlined any_outline k)) (sym c.drawing)
    (subst (λ (l : List (Figure AnyShape)). ShowsDrawing h
    (outlined any_outline (record { table = canonical_table c.items; figures = l })))
    (raised_own (canonical_figures c.items))
    (raised_shown h c.items (λ n. n) valid c.ranked (λ m n l. l) (λ k l. omega arith)))
