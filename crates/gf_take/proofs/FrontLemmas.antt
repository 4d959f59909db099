-- A history that shows a drawing paints it: an order in which figures are swapped that share one
-- colour or no point paints the same.
use Rattle.std.proofs.Common.{◌≡◌, Bool, true, false, cond, List, [], ◌∷◌, map, reverse, refl}
use Rattle.std.proofs.Common.{sym, ap, subst, ◌∙◌, inl, inr}
use Rattle.std.specs.Prelude.{All, fold, find, flat_map, Option, Some, option_map}
use Rattle.std.specs.Prelude.{unwrap_or}
use Rattle.std.proofs.lemmas.Bool.{cases_Bool}
use Rattle.std.proofs.lemmas.List.{reverse-append, reverse-reverse}
use Rattle.std.proofs.lemmas.List.Elements.{All-append, All-cons, All-filter, All-head, All-nil}
use Rattle.std.proofs.lemmas.List.Elements.{All-tail}
use Rattle.std.proofs.lemmas.List.Sorted.{All-permutation, IsPermutation-reverse}
use Rattle.std.proofs.lemmas.List.Sums.{fold-append}
use Rattle.std.specs.List.{range_with_len}
use Rattle.gf_shape.specs.declared.any_shape.AnyShape.{AnyShape}
use Rattle.gf_plane.specs.declared.colour.Rgb.{Rgb}
use Rattle.gf_shape.specs.declared.outline.Outline.{Outline}
use Rattle.gf_plane.specs.declared.point.Point.{Point}
use Rattle.gf_shape.specs.FigureMeaning.{outline_holds}
use Rattle.gf_shape.specs.ShapeLaws.{IsLawful}
use Rattle.gf_shape.specs.ShapeMeaning.{any_holds}
use Rattle.gf_plane.specs.White.{white}
use Rattle.gf_ops.specs.declared.op.Op.{Op}
use Rattle.gf_versions.specs.declared.placed.Placed.{Placed}
use Rattle.gf_versions.specs.HistoryColour.{HistoryColour}
use Rattle.gf_versions.specs.Ranking.{AreRanked, first_colour}
use Rattle.gf_versions.proofs.ShapeLemmas.{shape_holds}
use Rattle.gf_versions.proofs.TopLemmas.{first_gives}
use Rattle.gf_figures.specs.declared.figure.Figure.{Figure}
use Rattle.gf_figures.specs.Colours.{Table}
use Rattle.gf_figures.specs.DrawingColour.{drawing_colour, figure_colour, figures_at, from_back}
use Rattle.gf_figures.specs.DrawingColour.{from_front, front_colour}
use Rattle.gf_figures.specs.DrawingState.{DrawingState}
use Rattle.gf_drawing.specs.CanonicalDrawing.{PaintsAsFig}
use Rattle.gf_objects.specs.Objects.{form_of, place_of}
use Rattle.gf_objects.proofs.OutlineLemmas.{form_holds-outline}
use Rattle.gf_take.specs.ShownDrawing.{CanSwap, IsReordered, Look, ShowsDrawing, look_at, look_of}
use Rattle.gf_take.specs.ShownDrawing.{TakesOut, behind, first, next, none, shape_become}

module _ {F C : Type 0} (holds : F → Bool) (colour : F → C) where
  -- f is painted over c, if it holds
  abbrev over : C → F → C
  over c f = cond (holds f) (colour f) c

  -- the colour of the one in front, or c
  abbrev shown : C → Option F → C
  shown c front = unwrap_or (option_map colour front) c

  -- painting from the back leaves the colour of the first that holds
  over_reverse : (c : C) (fs : List F) → fold over c (reverse fs) ≡ shown c (find holds fs)
  over_reverse c [] = refl
  over_reverse c (f ∷ fs) =
      ap (fold over c) (reverse-append (f ∷ []) fs)
      ∙ (fold-append over c (reverse fs) (f ∷ [])
      ∙ (ap (λ b. over b f) (over_reverse c fs) ∙ known (holds f)))
    where
      known : (b : Bool) → cond b (colour f) (shown c (find holds fs))
          ≡ shown c (cond b (Some f) (find holds fs))
      known true = refl
      known false = refl

  over_front : (c : C) (fs : List F) → fold over c fs ≡ shown c (find holds (reverse fs))
  over_front c fs = ap (fold over c) (sym (reverse-reverse fs)) ∙ over_reverse c (reverse fs)

-- the colour of a drawing is that of its first figure from the front that holds the point
drawing_from_front : (d : DrawingState Outline) (p : Point)
    → drawing_colour outline_holds d.table d.figures p
    ≡ front_colour outline_holds d.table (from_front d.figures) p
drawing_from_front d p =
    over_front (λ (f : Figure Outline). outline_holds f.shape p) (figure_colour d.table) white
    (from_back d.figures)

-- ---- the figures in their order are figures of the drawing

module _ {X : Type 0} (P : X → Type 0) where
  All-flat_map : {A : Type 0} (f : A → List X) → ((a : A) → All P (f a)) → (ks : List A)
      → All P (flat_map f ks)
  All-flat_map f each [] = All-nil P
  All-flat_map f each (k ∷ ks) =
      All-append P (f k) (flat_map f ks) (each k) (All-flat_map f each ks)

pub All-front : (P : Figure Outline → Type 0) (d : DrawingState Outline) → All P d.figures
    → All P (from_front d.figures)
unfolding from_back
All-front P d h =
    All-permutation P (from_back d.figures) (reverse (from_back d.figures))
    (IsPermutation-reverse (from_back d.figures))
    (All-flat_map P (figures_at d.figures)
    (λ k. All-filter _ P d.figures h) (reverse (range_with_len 0 1000)))

module _ (P : Figure Outline → Type 0) (table : Table) where
  -- one that is taken out, and the rest
  pub All-taken : (f : Figure Outline) (fs rest : List (Figure Outline)) → TakesOut table f fs rest
      → All P fs → P f × All P rest
  All-taken f fs rest (first {rest = others}) all =
      (All-head P f others all, All-tail P f others all)
  All-taken f fs rest (behind {figures = gs} {rest = others} g swap out) all =
      let parts = All-taken f gs others out (All-tail P g gs all) in
      (parts.0, All-cons P g others (All-head P g gs all) parts.1)

  pub All-reordered : (fs order : List (Figure Outline)) → IsReordered table fs order → All P fs
      → All P order
  All-reordered fs order none all = all
  All-reordered fs order (next {rest = rest} {order = others} f out more) all =
      let parts = All-taken f fs rest out all in
      All-cons P f others parts.0 (All-reordered rest others more parts.1)

-- ---- orders that paint the same

module _ (table : Table) (p : Point) where
  abbrev colour_of : List (Figure Outline) → Rgb
  colour_of fs = front_colour outline_holds table fs p

  front_holds : (f : Figure Outline) (fs : List (Figure Outline)) → outline_holds f.shape p ≡ true
      → colour_of (f ∷ fs) ≡ figure_colour table f
  front_holds f fs t = rw t refl

  front_passed : (f : Figure Outline) (fs : List (Figure Outline))
      → outline_holds f.shape p ≡ false → colour_of (f ∷ fs) ≡ colour_of fs
  front_passed f fs t = rw t refl

  behind_same : (f : Figure Outline) (fs gs : List (Figure Outline)) → colour_of fs ≡ colour_of gs
      → colour_of (f ∷ fs) ≡ colour_of (f ∷ gs)
  behind_same f fs gs e = elim (cases_Bool (outline_holds f.shape p)) [
    | inl t ↦ front_holds f fs t ∙ sym (front_holds f gs t)
    | inr t ↦ front_passed f fs t ∙ (e ∙ sym (front_passed f gs t))
  ]

  -- two in front that can be swapped
  swapped : (f g : Figure Outline) (fs : List (Figure Outline)) → CanSwap table f g
      → colour_of (g ∷ f ∷ fs) ≡ colour_of (f ∷ g ∷ fs)
  swapped f g fs can = elim (cases_Bool (outline_holds g.shape p)) [
    | inl t ↦ elim (cases_Bool (outline_holds f.shape p)) [
      | inl u ↦ elim can [
        | inl same ↦ front_holds g (f ∷ fs) t ∙ (sym same ∙ sym (front_holds f (g ∷ fs) u))
        | inr a ↦ absurd (a.apart p (a.is_bounds.within p u) (a.is_others.within p t))
      ]
      | inr u ↦ front_holds g (f ∷ fs) t
          ∙ (sym (front_holds g fs t) ∙ sym (front_passed f (g ∷ fs) u))
    ]
    | inr t ↦ front_passed g (f ∷ fs) t ∙ behind_same f fs (g ∷ fs) (sym (front_passed g fs t))
  ]

  -- one that is taken out
  taken_front : (f : Figure Outline) (fs rest : List (Figure Outline)) → TakesOut table f fs rest
      → colour_of fs ≡ colour_of (f ∷ rest)
  taken_front f fs rest first = refl
  taken_front f fs rest (behind {figures = gs} {rest = others} g swap out) =
      behind_same g gs (f ∷ others) (taken_front f gs others out) ∙ swapped f g others swap

  reordered_paints : (fs order : List (Figure Outline)) → IsReordered table fs order
      → colour_of fs ≡ colour_of order
  reordered_paints fs order none = refl
  reordered_paints fs order (next {rest = rest} {order = others} f out more) =
      taken_front f fs rest out ∙ behind_same f rest others (reordered_paints rest others more)

-- ---- looks

-- what an outline becomes holds what the outline holds
pub shape_become_holds : (o : Outline) (p : Point) → IsLawful o
    → any_holds (shape_become o) p ≡ outline_holds o p
shape_become_holds o p lawful =
    shape_holds (form_of o) (place_of o) p ∙ form_holds-outline o p lawful

module _ (table : Table) (p : Point) where
  looks_paint : (items : List (Placed AnyShape)) (fs : List (Figure Outline))
      → All (λ (f : Figure Outline). IsLawful f.shape) fs
      → map look_at items ≡ map (look_of table) fs
      → first_colour any_holds items p ≡ front_colour outline_holds table fs p
  looks_paint [] [] lawful e = refl
  looks_paint [] (f ∷ fs) lawful e = absurd cc
  looks_paint (i ∷ items) [] lawful e = absurd cc
  looks_paint (i ∷ items) (f ∷ fs) lawful e =
      let head : look_at i ≡ look_of table f = cc in
      let rest : map look_at items ≡ map (look_of table) fs = cc in
      let shape : i.shape ≡ shape_become f.shape = ap (λ (l : Look). l.0) head in
      let colour : i.colour ≡ figure_colour table f = ap (λ (l : Look). l.1) head in
      let own = All-head (λ (g : Figure Outline). IsLawful g.shape) f fs lawful in
      let same : any_holds i.shape p ≡ outline_holds f.shape p =
      ap (λ s. any_holds s p) shape ∙ shape_become_holds f.shape p own in
      elim (cases_Bool (outline_holds f.shape p)) [
        | inl t ↦ rw (same, t) colour
        | inr t ↦ rw (same, t)
            (looks_paint items fs (All-tail (λ (g : Figure Outline). IsLawful g.shape) f fs lawful)
            rest)
      ]

-- ranked versions that look like lawful figures in an order that paints the same have the colours
-- of the drawing
pub order_paints : (h : List Op) (d : DrawingState Outline) (items : List (Placed AnyShape))
    (order : List (Figure Outline)) → AreRanked h items
    → All (λ (f : Figure Outline). IsLawful f.shape) order
    → IsReordered d.table (from_front d.figures) order
    → map look_at items ≡ map (look_of d.table) order → PaintsAsFig h d
order_paints h d items order ranked lawful reordered same p =
    subst (HistoryColour h p)
    (looks_paint d.table p items order lawful same
    ∙ (sym (reordered_paints d.table p (from_front d.figures) order reordered)
    ∙ sym (drawing_from_front d p)))
    (first_gives h p items ranked)

pub shown_paints : (h : List Op) (d : DrawingState Outline)
    → All (λ (f : Figure Outline). IsLawful f.shape) d.figures → ShowsDrawing h d → PaintsAsFig h d
shown_paints h d lawful s =
    let Lawful : Figure Outline → Type 0 = λ f. IsLawful f.shape in
    order_paints h d s.items s.order s.ranked
    (All-reordered Lawful d.table (from_front d.figures) s.order s.reordered
    (All-front Lawful d lawful))
    s.reordered s.same
