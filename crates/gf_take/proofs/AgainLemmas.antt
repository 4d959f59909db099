-- What FIG draws of a visible version becomes the shape of this version again.
use Rattle.std.proofs.Common.{◌≡◌, ℕ, ◌≤◌, true, not, List, [], ◌∷◌, map, refl, sym}
use Rattle.std.proofs.Common.{ap, subst, ◌∙◌, inl, inr, arith, get_or}
use Rattle.std.specs.Prelude.{All, Contains, IsTrue, ℤ, pos, ◌+ℤ◌, ◌-ℤ◌, unsigned_abs, nat_le}
use Rattle.std.specs.Int.{int_min}
use Rattle.std.specs.Ordering.{int_eq}
use Rattle.std.proofs.lemmas.Bool.{and_parts, cases_Bool, leb-true}
use Rattle.std.proofs.lemmas.Bool.Decides.{Decides-int_eq}
use Rattle.std.proofs.lemmas.Int.{ints}
use Rattle.std.proofs.lemmas.List.Elements.{All-head, All-tail, Contains-get_or}
use Rattle.gf_shape.specs.declared.any_shape.AnyShape.{AnyShape}
use Rattle.gf_shape.specs.declared.any_shape.AnyShape.TheVariants as any
use Rattle.gf_plane.specs.declared.colour.Rgb.{Rgb}
use Rattle.gf_shape.specs.declared.outline.Outline.{Outline}
use Rattle.gf_plane.specs.declared.point.Point.{Point}
use Rattle.gf_shape.specs.Area.{Area, corners_again, far_corner}
use Rattle.gf_plane.specs.Moving.{minus, plus}
use Rattle.gf_shape.specs.Oblong.{Oblong}
use Rattle.gf_shape.specs.Opened.{opened}
use Rattle.gf_shape.specs.Outlines.{any_outline}
use Rattle.gf_shape.specs.Ring.{ring_of}
use Rattle.gf_shape.specs.Round.{Round}
use Rattle.gf_shape.specs.ShapeMoves.{points_moved}
use Rattle.gf_shape.specs.Laws.Moved.{plus-minus}
use Rattle.gf_shape.proofs.RingLemmas.{opened-ring_of}
use Rattle.gf_ops.specs.declared.op.Op.{Op}
use Rattle.gf_ops.specs.declared.change.Form.{Form}
use Rattle.gf_ops.specs.declared.change.Form.TheVariants.{Circle, Ellipse, Polygon, Rect}
use Rattle.gf_ops.specs.Limits.{is_form, is_near, is_size}
use Rattle.gf_ops.specs.ValidHistory.{IsValid}
use Rattle.gf_versions.specs.declared.placed.Placed.{Placed}
use Rattle.gf_versions.specs.Ranking.{AreRanked, form_at, origin}
use Rattle.gf_versions.proofs.LimitLemmas.{version_fits}
use Rattle.gf_figures.specs.declared.figure.Figure.{Figure}
use Rattle.gf_figures.specs.Colours.{Table}
use Rattle.gf_figures.specs.DrawingColour.{figure_colour}
use Rattle.gf_objects.specs.Boxes.{are_opposite, is_at, is_box}
use Rattle.gf_objects.specs.Places.{polygon_place}
use Rattle.gf_take.specs.ShownDrawing.{look_at, look_of, shape_become}
use Rattle.gf_take.specs.Matching.{AreTraced, trace}

none_more : (n : ℤ) → pos 0 +ℤ n ≡ n
none_more n = omega (arith, ints)

pub plus-origin : (p : Point) → plus origin p ≡ p
plus-origin p = let x = none_more p.x in let y = none_more p.y in λ i. record { x = x i; y = y i }

-- ---- boxes

is_at_own : (p : Point) → is_at p p.x p.y ≡ true
unfolding is_at
is_at_own p = rw ((Decides-int_eq p.x p.x).1 refl, (Decides-int_eq p.y p.y).1 refl) refl

apart : (n : ℤ) (size : ℕ) → 1 ≤ size → not (int_eq n (n +ℤ pos size)) ≡ true
apart n size l = elim (cases_Bool (int_eq n (n +ℤ pos size))) [
  | inl t ↦ let e = (Decides-int_eq n (n +ℤ pos size)).0 t in absurd (omega (arith, ints))
  | inr f ↦ rw f refl
]

opposite : (a : Area) → 1 ≤ a.width → 1 ≤ a.height → are_opposite a.low (far_corner a) ≡ true
unfolding are_opposite
opposite a w h = rw (apart a.low.x a.width w, apart a.low.y a.height h) refl

pub corners_box : (a : Area) → 1 ≤ a.width → 1 ≤ a.height
    → is_box (record { boxed = true; points = corners_again a }) ≡ true
corners_box a w h =
    rw (
      opposite a w h,
      is_at_own (record { x = a.low.x +ℤ pos a.width; y = a.low.y }),
      is_at_own (record { x = a.low.x; y = a.low.y +ℤ pos a.height }),
    )
    refl

pub least : (n : ℤ) (size : ℕ) → int_min n (n +ℤ pos size) ≡ n
least n size = grind (arith, ints)

pub size_back : (n : ℤ) (size : ℕ) → unsigned_abs ((n +ℤ pos size) -ℤ n) ≡ size
size_back n size = grind (arith, ints)

rect_again : (a : Area) → 1 ≤ a.width → 1 ≤ a.height
    → shape_become (any_outline (any.Rect a)) ≡ any.Rect a
rect_again a w h =
    rw (
      corners_box a w h,
      least a.low.x a.width,
      least a.low.y a.height,
      size_back a.low.x a.width,
      size_back a.low.y a.height,
    )
    (let p = plus-origin a.low in
    λ i. any.Rect (record { low = p i; width = a.width; height = a.height }))

-- ---- other shapes

pub points_back : (o : Point) (ps : List Point) → points_moved (map (λ p. minus p o) ps) o ≡ ps
points_back o [] = refl
points_back o (p ∷ ps) =
    let first = plus-minus p o in let rest = points_back o ps in λ i. first i ∷ rest i

polygon_again : (ps : List Point) → shape_become (any_outline (any.Polygon ps)) ≡ any.Polygon ps
polygon_again ps =
    let ring = (ring_of ps).points in
    ap any.Polygon (points_back (polygon_place ring) (opened ring) ∙ opened-ring_of ps)

circle_again : (r : Round) → shape_become (any_outline (any.Circle r)) ≡ any.Circle r
circle_again r =
    let p = plus-origin r.centre in λ i. any.Circle (record { centre = p i; radius = r.radius })

ellipse_again : (o : Oblong) → shape_become (any_outline (any.Ellipse o)) ≡ any.Ellipse o
ellipse_again o =
    let p = plus-origin o.centre in
    λ i. any.Ellipse (record { centre = p i; rx = o.rx; ry = o.ry })

-- a form within its limits, at its place, becomes itself again
pub form_again : (f : Form) (place : Point) → IsTrue (is_form f)
    → shape_become (any_outline (form_at f place)) ≡ form_at f place
form_again (Rect width height) place fits =
    let sizes = and_parts (is_size width) (is_size height) fits in
    let wide = and_parts (nat_le 1 width) (nat_le width 1000000) sizes.0 in
    let high = and_parts (nat_le 1 height) (nat_le height 1000000) sizes.1 in
    rect_again (record { low = plus origin place; width = width; height = height })
    (leb-true 1 width wide.0) (leb-true 1 height high.0)
form_again (Circle radius) place fits =
    circle_again (record { centre = plus origin place; radius = radius })
form_again (Ellipse rx ry) place fits =
    ellipse_again (record { centre = plus origin place; rx = rx; ry = ry })
form_again (Polygon ps) place fits = polygon_again (points_moved ps place)

-- ---- ranked items

module _ (h : List Op) (valid : IsValid h) (items : List (Placed AnyShape))
    (ranked : AreRanked h items) where
  item_again : (i : Placed AnyShape) → Contains items i
      → shape_become (any_outline i.shape) ≡ i.shape
  item_again i c =
      let w = (ranked.exactly i).1 c in
      let fits = and_parts (is_form w.version.form) (is_near w.version.place)
      (version_fits h valid w.version w.visible.version) in
      subst (λ (j : Placed AnyShape). shape_become (any_outline j.shape) ≡ j.shape) (sym w.placed)
      (form_again w.version.form w.version.place fits.0)

  pub items_again : All (λ (i : Placed AnyShape). shape_become (any_outline i.shape) ≡ i.shape)
      items
  items_again = λ k d l. item_again (get_or items k d) (Contains-get_or items k d l)

module _ (table : Table) where
  -- what becomes the same looks the same
  looks_traced : (items : List (Placed AnyShape)) (fs : List (Figure Outline))
      → All (λ (i : Placed AnyShape). shape_become (any_outline i.shape) ≡ i.shape) items
      → map (λ (i : Placed AnyShape). trace (any_outline i.shape) i.colour) items
      ≡ map (λ (f : Figure Outline). trace f.shape (figure_colour table f)) fs
      → map look_at items ≡ map (look_of table) fs
  looks_traced [] [] again e = refl
  looks_traced [] (f ∷ fs) again e = absurd cc
  looks_traced (i ∷ items) [] again e = absurd cc
  looks_traced (i ∷ items) (f ∷ fs) again e =
      let Again : Placed AnyShape → Type 0 = λ j. shape_become (any_outline j.shape) ≡ j.shape in
      let head : trace (any_outline i.shape) i.colour ≡ trace f.shape (figure_colour table f) = cc
      in
      let rest : map (λ (i : Placed AnyShape). trace (any_outline i.shape) i.colour) items
      ≡ map (λ (f : Figure Outline). trace f.shape (figure_colour table f)) fs = cc in
      let shape : i.shape ≡ shape_become f.shape =
      sym (All-head Again i items again)
      ∙ ap (λ (t : Form × Point × Rgb). form_at t.0 t.1) head in
      let colour : i.colour ≡ figure_colour table f = ap (λ (t : Form × Point × Rgb). t.2) head in
      let others = looks_traced items fs (All-tail Again i items again) rest in
      λ k. (shape k, colour k) ∷ others k

-- ranked versions of a valid history whose outlines become what figures become look like these
pub looks_traced_items : (h : List Op) (table : Table) (items : List (Placed AnyShape))
    (order : List (Figure Outline)) → IsValid h → AreRanked h items → AreTraced table items order
    → map look_at items ≡ map (look_of table) order
looks_traced_items h table items order valid ranked t =
    looks_traced table items order (items_again h valid items ranked) t.same
