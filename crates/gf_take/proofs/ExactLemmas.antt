-- Where the looks are the same, the traces are: the test of a drawing refuses no drawing that the
-- visible versions look like.
use Rattle.std.proofs.Common.{◌≡◌, ℕ, suc, ◌-◌, ◌≤◌, true, false, not, List, [], ◌∷◌, ◌++◌, map}
use Rattle.std.proofs.Common.{length, take, refl, sym, ap, subst, ◌∙◌, inl, inr, arith}
use Rattle.std.specs.Prelude.{All, Some, slice_get, ℤ, ◌-ℤ◌, unsigned_abs}
use Rattle.std.specs.Ordering.{int_eq}
use Rattle.std.proofs.lemmas.Bool.{and_parts, cases_Bool}
use Rattle.std.proofs.lemmas.Bool.Decides.{Decides-int_eq}
use Rattle.std.proofs.lemmas.Int.{ints}
use Rattle.std.proofs.lemmas.List.Elements.{All-head, All-tail}
use Rattle.gf_shape.specs.declared.any_shape.AnyShape.{AnyShape}
use Rattle.gf_shape.specs.declared.any_shape.AnyShape.TheVariants as any
use Rattle.gf_shape.specs.declared.outline.Outline.{Outline}
use Rattle.gf_shape.specs.declared.outline.Outline.TheVariants.{Chain, Disc, Oval}
use Rattle.gf_plane.specs.declared.point.Point.{Point}
use Rattle.gf_shape.specs.Area.{Area}
use Rattle.gf_plane.specs.Moving.{plus}
use Rattle.gf_shape.specs.Opened.{opened}
use Rattle.gf_shape.specs.Outlines.{any_outline, rect_outline}
use Rattle.gf_shape.specs.Ring.{Ring, IsRing}
use Rattle.gf_shape.specs.ShapeLaws.{IsLawful}
use Rattle.gf_ops.specs.declared.op.Op.{Op}
use Rattle.gf_ops.specs.declared.change.Form.TheVariants.{Rect}
use Rattle.gf_versions.specs.declared.placed.Placed.{Placed}
use Rattle.gf_versions.specs.Ranking.{AreRanked, origin}
use Rattle.gf_versions.proofs.SameHistoryLemmas.{ranked_alike}
use Rattle.gf_figures.specs.declared.figure.Figure.{Figure}
use Rattle.gf_figures.specs.Colours.{Table}
use Rattle.gf_figures.specs.DrawingColour.{figure_colour, from_front}
use Rattle.gf_figures.specs.DrawingState.{DrawingState}
use Rattle.gf_objects.specs.Boxes.{are_corners, are_opposite, is_box, least_corner}
use Rattle.gf_objects.specs.Boxes.{point_at}
use Rattle.gf_objects.specs.Places.{polygon_place}
use Rattle.gf_objects.specs.Objects.{form_of, place_of}
use Rattle.gf_take.specs.Matching.{AreShown, AreTraced, IsTraced, trace}
use Rattle.gf_take.specs.ShownDrawing.{Look, LooksLike, ShowsDrawing, look_at, look_of}
use Rattle.gf_take.specs.ShownDrawing.{shape_become}
use Rattle.gf_take.proofs.FrontLemmas.{All-front, All-reordered}
use Rattle.gf_take.proofs.AgainLemmas.{corners_box, least, plus-origin, points_back, size_back}

-- ---- boxes

apart_size : (m n : ℤ) → not (int_eq m n) ≡ true → 1 ≤ unsigned_abs (n -ℤ m)
apart_size m n t = elim (cases_Bool (int_eq m n)) [
  | inl e ↦ let f : not true ≡ true = rw e at t in absurd cc
  | inr e ↦
      let other : ¬ (m ≡ n) = λ q. let s = (Decides-int_eq m n).1 q in
      let f : true ≡ false = sym s ∙ e in absurd cc in
      grind (arith, ints)
]

record HasSize (a c : Point) : Type 0 where
  wide : 1 ≤ unsigned_abs (c.x -ℤ a.x)
  high : 1 ≤ unsigned_abs (c.y -ℤ a.y)

opposite_size : (a c : Point) → are_opposite a c ≡ true → HasSize a c
unfolding are_opposite
opposite_size a c t =
    let parts = and_parts (not (int_eq a.x c.x)) (not (int_eq a.y c.y)) t in
    record { wide = apart_size a.x c.x parts.0; high = apart_size a.y c.y parts.1 }

-- the area of a ring that is a box
abbrev box_area : Ring → Area
box_area ring = record {
  low = plus origin (least_corner (point_at ring.points 0) (point_at ring.points 2));
  width = unsigned_abs ((point_at ring.points 2).x -ℤ (point_at ring.points 0).x);
  height = unsigned_abs ((point_at ring.points 2).y -ℤ (point_at ring.points 0).y);
}

box_size : (ring : Ring) → is_box ring ≡ true
    → HasSize (point_at ring.points 0) (point_at ring.points 2)
box_size ring t =
    let a = point_at ring.points 0 in
    let b = point_at ring.points 1 in
    let c = point_at ring.points 2 in
    let d = point_at ring.points 3 in
    let corners = and_parts ring.boxed (are_corners a b c d) t in
    let parts = and_parts (are_opposite a c) _ corners.1 in
    opposite_size a c parts.0

rect_form : (a : Area) → 1 ≤ a.width → 1 ≤ a.height
    → form_of (rect_outline a) ≡ Rect a.width a.height
rect_form a w h =
    rw (corners_box a w h, size_back a.low.x a.width, size_back a.low.y a.height) refl

rect_place : (a : Area) → 1 ≤ a.width → 1 ≤ a.height → place_of (rect_outline a) ≡ a.low
rect_place a w h =
    rw (corners_box a w h, least a.low.x a.width, least a.low.y a.height) refl

-- ---- chains

last_again : {X : Type 0} (x : X) (xs : List X) (z : X)
    → slice_get (x ∷ xs) (length xs) ≡ Some z → take (length xs) (x ∷ xs) ++ z ∷ [] ≡ x ∷ xs
last_again x [] z e = let same : x ≡ z = cc in ap (λ y. y ∷ []) (sym same)
last_again x (y ∷ ys) z e = ap (λ l. x ∷ l) (last_again y ys z e)

less_one : (n : ℕ) → suc n - 1 ≡ n
less_one n = omega arith

ring_again : (ps : List Point) → 4 ≤ length ps
    → slice_get ps (length ps - 1) ≡ slice_get ps 0 → opened ps ++ take 1 (opened ps) ≡ ps
ring_again [] l e = absurd (omega arith)
ring_again (a ∷ []) l e = absurd (omega arith)
ring_again (a ∷ b ∷ ps) l e =
    let n : length (a ∷ b ∷ ps) - 1 ≡ length (b ∷ ps) = less_one (length (b ∷ ps)) in
    let last : slice_get (a ∷ b ∷ ps) (length (b ∷ ps)) ≡ Some a =
    subst (λ k. slice_get (a ∷ b ∷ ps) k ≡ Some a) n e in
    subst (λ k. take k (a ∷ b ∷ ps) ++ take 1 (take k (a ∷ b ∷ ps)) ≡ a ∷ b ∷ ps) (sym n)
    (last_again a (b ∷ ps) a last)

-- a polygon's outline by its points
abbrev open_chain : List Point → Outline
open_chain ps = Chain (record { boxed = false; points = ps })

polygon_back : (ring : Ring) → IsRing ring → is_box ring ≡ false
    → any_outline (shape_become (Chain ring)) ≡ open_chain ring.points
polygon_back ring lawful f =
    let o = polygon_place ring.points in
    let shape : shape_become (Chain ring) ≡ any.Polygon (opened ring.points) =
    rw f (ap any.Polygon (points_back o (opened ring.points))) in
    ap any_outline shape ∙ ap open_chain (ring_again ring.points lawful.least lawful.closed)

-- ---- outlines

-- what an outline becomes has an outline that becomes the same
form_back : (o : Outline) → IsLawful o → form_of (any_outline (shape_become o)) ≡ form_of o
form_back (Disc disc) lawful = refl
form_back (Oval oval) lawful = refl
form_back (Chain ring) lawful = elim (cases_Bool (is_box ring)) [
  | inl t ↦ let size = box_size ring t in rw t (rect_form (box_area ring) size.wide size.high)
  | inr f ↦ ap form_of (polygon_back ring lawful f) ∙ open_form f
]
  where
    open_form : is_box ring ≡ false → form_of (open_chain ring.points) ≡ form_of (Chain ring)
    open_form f = rw f refl

place_back : (o : Outline) → IsLawful o → place_of (any_outline (shape_become o)) ≡ place_of o
place_back (Disc disc) lawful = plus-origin disc.centre
place_back (Oval oval) lawful = plus-origin oval.centre
place_back (Chain ring) lawful = elim (cases_Bool (is_box ring)) [
  | inl t ↦
      let size = box_size ring t in
      let corner = least_corner (point_at ring.points 0) (point_at ring.points 2) in
      rw t (rect_place (box_area ring) size.wide size.high ∙ plus-origin corner)
  | inr f ↦ ap place_of (polygon_back ring lawful f) ∙ open_place f
]
  where
    open_place : is_box ring ≡ false → place_of (open_chain ring.points) ≡ place_of (Chain ring)
    open_place f = rw f refl

-- a version that looks like what a lawful figure becomes is traced like the figure
pub look_is_like : (table : Table) (i : Placed AnyShape) (f : Figure Outline) → IsLawful f.shape
    → look_of table f ≡ look_at i → IsTraced table (any_outline i.shape) i.colour f
look_is_like table i f lawful e = record {
  alike = record {
    form = ap (λ (l : Look). form_of (any_outline l.0)) (sym e) ∙ form_back f.shape lawful;
    place = ap (λ (l : Look). place_of (any_outline l.0)) (sym e) ∙ place_back f.shape lawful;
    lawful = lawful;
  };
  colour = ap (λ (l : Look). l.1) (sym e);
}

-- ---- lists

module _ (table : Table) where
  looks_to_traces : (items : List (Placed AnyShape)) (fs : List (Figure Outline))
      → All (λ (f : Figure Outline). IsLawful f.shape) fs
      → map look_at items ≡ map (look_of table) fs
      → map (λ (i : Placed AnyShape). trace (any_outline i.shape) i.colour) items
      ≡ map (λ (f : Figure Outline). trace f.shape (figure_colour table f)) fs
  looks_to_traces [] [] lawful e = refl
  looks_to_traces [] (f ∷ fs) lawful e = absurd cc
  looks_to_traces (i ∷ items) [] lawful e = absurd cc
  looks_to_traces (i ∷ items) (f ∷ fs) lawful e =
      let Lawful : Figure Outline → Type 0 = λ g. IsLawful g.shape in
      let head : look_at i ≡ look_of table f = cc in
      let rest : map look_at items ≡ map (look_of table) fs = cc in
      let own = All-head Lawful f fs lawful in
      let first : trace (any_outline i.shape) i.colour ≡ trace f.shape (figure_colour table f) =
      ap (λ (l : Look). trace (any_outline l.0) l.1) head
      ∙ (λ k. (form_back f.shape own k, place_back f.shape own k, figure_colour table f)) in
      let others = looks_to_traces items fs (All-tail Lawful f fs lawful) rest in
      λ k. first k ∷ others k

-- the ranked versions of a history that looks like a drawing of lawful figures are the same
pub look_is_traced : (h : List Op) (d : DrawingState Outline) (items : List (Placed AnyShape))
    → AreRanked h items → All (λ (f : Figure Outline). IsLawful f.shape) d.figures
    → LooksLike h d → AreTraced d.table items (from_front d.figures)
look_is_traced h d items ranked lawful s =
    let Lawful : Figure Outline → Type 0 = λ f. IsLawful f.shape in
    let same : s.items ≡ items =
    ranked_alike h h (λ a. (λ i. i, λ i. i)) s.items items s.ranked ranked in
    let all = All-front Lawful d lawful in
    record {
      same = looks_to_traces d.table items (from_front d.figures) all
          (ap (map look_at) (sym same) ∙ s.same);
      lawful = all;
    }

-- a drawing of lawful figures that a history shows is matched with its ranked versions
pub drawing_is_shown : (h : List Op) (d : DrawingState Outline) (items : List (Placed AnyShape))
    → AreRanked h items → All (λ (f : Figure Outline). IsLawful f.shape) d.figures
    → ShowsDrawing h d → AreShown d.table (from_front d.figures) items
drawing_is_shown h d items ranked lawful s =
    let Lawful : Figure Outline → Type 0 = λ f. IsLawful f.shape in
    let same : s.items ≡ items =
    ranked_alike h h (λ a. (λ i. i, λ i. i)) s.items items s.ranked ranked in
    let all = All-reordered Lawful d.table (from_front d.figures) s.order s.reordered
    (All-front Lawful d lawful) in
    record {
      order = s.order;
      traced = record {
        same = looks_to_traces d.table items s.order all (ap (map look_at) (sym same) ∙ s.same);
        lawful = all;
      };
      reordered = s.reordered;
    }
