-- What a history shows can be imported: its canonical drawing, drawn by outlines.
use Rattle.std.proofs.Common.{◌≡◌, ◌≢◌, ℕ, ◌+◌, ◌-◌, ◌≤◌, true, not, List, [], ◌∷◌, ◌++◌, map, length}
use Rattle.std.proofs.Common.{take, refl, sym, ap, subst, ◌∙◌, arith, get_or, inl, inr}
use Rattle.std.specs.Prelude.{All, Contains, IsTrue, ℤ, pos, ◌+ℤ◌, ◌-ℤ◌, nat_le, unsigned_abs}
use Rattle.std.specs.Int.{int_min}
use Rattle.std.specs.Prelude.{Option, unwrap_or}
use Rattle.std.specs.List.{enumerate_from, list_all, list_any}
use Rattle.std.specs.Ordering.{int_eq}
use Rattle.std.proofs.lemmas.Bool.{and_parts, and_from, cases_Bool, le-leb, leb-true}
use Rattle.std.proofs.lemmas.Bool.Decides.{Decides-int_eq}
use Rattle.std.proofs.lemmas.Int.{ints}
use Rattle.std.proofs.lemmas.List.{length-map}
use Rattle.std.proofs.lemmas.List.Elements.{All-cons, All-head, All-map, All-nil, All-tail}
use Rattle.std.proofs.lemmas.List.Elements.{Contains-get_or}
use Rattle.std.proofs.lemmas.List.FromFn.{length-enumerate_from}
use Rattle.gf_plane.specs.White.{white}
use Rattle.gf_plane.specs.declared.colour.Rgb.{Rgb}
use Rattle.gf_plane.specs.declared.point.Point.{Point}
use Rattle.gf_plane.specs.Moving.{minus, plus}
use Rattle.gf_plane.specs.PointCounts.{is_polygon_count}
use Rattle.gf_shape.specs.declared.any_shape.AnyShape.{AnyShape}
use Rattle.gf_shape.specs.declared.outline.Outline.{Outline}
use Rattle.gf_shape.specs.Area.{Area, corners_again, far_corner}
use Rattle.gf_shape.specs.Opened.{opened}
use Rattle.gf_shape.specs.Outlines.{any_outline, rect_outline}
use Rattle.gf_shape.specs.Ring.{ring_of}
use Rattle.gf_shape.specs.ShapeLaws.{IsLawful}
use Rattle.gf_shape.specs.ShapeMoves.{points_moved, rect_moved}
use Rattle.gf_shape.proofs.RingLemmas.{opened-ring_of}
use Rattle.gf_ops.specs.Limits.{is_change, is_colour, is_form, is_layer, is_near, is_polygon}
use Rattle.gf_ops.specs.Limits.{is_size}
use Rattle.gf_ops.specs.ConflictTests.{colour_eq}
use Rattle.gf_ops.specs.ValidHistory.{IsValid}
use Rattle.gf_ops.specs.declared.op.Op.{Op}
use Rattle.gf_ops.specs.declared.change.Attr.TheVariants.{Colour}
use Rattle.gf_ops.specs.declared.change.Change.{Change}
use Rattle.gf_ops.specs.declared.change.Value.TheVariants as value
use Rattle.gf_ops.specs.declared.change.Form.{Form}
use Rattle.gf_ops.specs.declared.change.Form.TheVariants.{Circle, Ellipse, Polygon, Rect}
use Rattle.gf_versions.specs.declared.placed.Placed.{Placed}
use Rattle.gf_versions.specs.Ranking.{AreRanked, form_at, origin}
use Rattle.gf_versions.proofs.LimitLemmas.{settled_fits, version_fits}
use Rattle.gf_figures.specs.declared.figure.Figure.{Figure}
use Rattle.gf_figures.specs.Colours.{Table}
use Rattle.gf_figures.specs.DrawingColour.{figure_colour}
use Rattle.gf_figures.specs.DrawingState.{DrawingState, IsLawfulDrawing, IsLawfulFigure}
use Rattle.gf_figures.specs.Outlined.{figure_outlined, outlined}
use Rattle.gf_drawing.specs.CanonicalDrawing.{IsCanonical, canonical_drawing, canonical_figure}
use Rattle.gf_drawing.specs.CanonicalDrawing.{canonical_figures, colours_of}
use Rattle.gf_drawing.proofs.CompilingLemmas.{own_colour}
use Rattle.gf_drawing.proofs.NumberLemmas.{number_gives}
use Rattle.gf_fig_write.proofs.CanonicalLemmas.{figures_outlined, items_outlined, lawful_canonical}
use Rattle.gf_import.specs.Imported.{IsImportable}
use Rattle.gf_import.specs.Importing.{creation_of}
use Rattle.gf_objects.specs.Boxes.{are_opposite, is_at, is_box}
use Rattle.gf_objects.specs.Objects.{form_of, place_of}
use Rattle.gf_objects.specs.Places.{polygon_place}
use Rattle.gf_objects.proofs.PlaceLemmas.{moved_near}

-- the object that an outline becomes keeps the limits of an operation
abbrev pub Fits : Outline → Type 0
Fits o = IsTrue (is_form (form_of o)) × IsTrue (is_near (place_of o))

none_more : (n : ℤ) → pos 0 +ℤ n ≡ n
none_more n = omega (arith, ints)

plus-origin : (p : Point) → plus origin p ≡ p
plus-origin p = let x = none_more p.x in let y = none_more p.y in λ i. record { x = x i; y = y i }

-- ---- boxes

at_own : (p : Point) → is_at p p.x p.y ≡ true
unfolding is_at
at_own p = rw ((Decides-int_eq p.x p.x).1 refl, (Decides-int_eq p.y p.y).1 refl) refl

apart : (n : ℤ) (size : ℕ) → 1 ≤ size → not (int_eq n (n +ℤ pos size)) ≡ true
apart n size l = elim (cases_Bool (int_eq n (n +ℤ pos size))) [
  | inl t ↦ let e = (Decides-int_eq n (n +ℤ pos size)).0 t in absurd (omega (arith, ints))
  | inr f ↦ rw f refl
]

opposite : (a : Area) → 1 ≤ a.width → 1 ≤ a.height → are_opposite a.low (far_corner a) ≡ true
unfolding are_opposite
opposite a w h = rw (apart a.low.x a.width w, apart a.low.y a.height h) refl

a_box : (a : Area) → 1 ≤ a.width → 1 ≤ a.height
    → is_box (record { boxed = true; points = corners_again a }) ≡ true
a_box a w h =
    rw (
      opposite a w h,
      at_own (record { x = a.low.x +ℤ pos a.width; y = a.low.y }),
      at_own (record { x = a.low.x; y = a.low.y +ℤ pos a.height }),
    )
    refl

least : (n : ℤ) (size : ℕ) → int_min n (n +ℤ pos size) ≡ n
least n size = grind (arith, ints)

size_back : (n : ℤ) (size : ℕ) → unsigned_abs ((n +ℤ pos size) -ℤ n) ≡ size
size_back n size = grind (arith, ints)

box_fits : (a : Area) → IsTrue (is_size a.width) → IsTrue (is_size a.height)
    → IsTrue (is_near a.low) → Fits (rect_outline a)
box_fits a wide high near =
    let w = leb-true 1 a.width (and_parts (nat_le 1 a.width) (nat_le a.width 1000000) wide).0 in
    let h = leb-true 1 a.height (and_parts (nat_le 1 a.height) (nat_le a.height 1000000) high).0 in
    let form : form_of (rect_outline a) ≡ Rect a.width a.height =
    rw (a_box a w h, size_back a.low.x a.width, size_back a.low.y a.height) refl in
    let place : place_of (rect_outline a) ≡ a.low =
    rw (a_box a w h, least a.low.x a.width, least a.low.y a.height) refl in
    (rw form (and_from (is_size a.width) (is_size a.height) wide high), rw place near)

-- ---- polygons

some_points : (ps : List Point) → IsTrue (is_polygon ps) → 1 ≤ length ps
some_points ps fits =
    let count = and_parts (is_polygon_count (length ps)) (list_all is_near ps) fits in
    let ends = and_parts (nat_le 3 (length ps)) (nat_le (length ps) 64) count.0 in
    let three = leb-true 3 (length ps) ends.0 in omega (arith, three)

front_near : (f : Point → Point) (xs ys : List Point)
    → IsTrue (list_all is_near (map f (xs ++ ys))) → IsTrue (list_all is_near (map f xs))
front_near f [] ys near = refl
front_near f (x ∷ xs) ys near =
    let parts = and_parts (is_near (f x)) (list_all is_near (map f (xs ++ ys))) near in
    and_from (is_near (f x)) (list_all is_near (map f xs)) parts.0 (front_near f xs ys parts.1)

polygon_fits : (ps : List Point) (d : Point) → IsTrue (is_polygon ps) → IsTrue (is_near d)
    → Fits (any_outline (form_at (Polygon ps) d))
polygon_fits ps d fits near =
    let qs = points_moved ps d in
    let ring = (ring_of qs).points in
    let parts = and_parts (is_polygon_count (length ps)) (list_all is_near ps) fits in
    let both = moved_near ps d (some_points ps fits) parts.1 near in
    let seen : IsTrue (list_all is_near (map (λ p. minus p (polygon_place ring)) (opened ring))) =
    rw (opened-ring_of qs) (seen_front d ps ring both.1) in
    let long : length (map (λ p. minus p (polygon_place ring)) (opened ring)) ≡ length ps =
    length-map (opened ring) (λ p. minus p (polygon_place ring))
    ∙ (ap (λ (l : List Point). length l) (opened-ring_of qs) ∙ length-map ps (λ p. plus p d)) in
    (and_from _ _ (rw long parts.0) seen, both.0)
  where
    seen_front : (d : Point) (ps ring : List Point)
        → IsTrue (list_all is_near (map (λ p. minus p (polygon_place ring))
        (points_moved ps d ++ take 1 (points_moved ps d))))
        → IsTrue (list_all is_near (map (λ p. minus p (polygon_place ring)) (points_moved ps d)))
    seen_front d ps ring near = front_near (λ p. minus p (polygon_place ring)) (points_moved ps d)
        (take 1 (points_moved ps d)) near

-- ---- versions

-- the outline of a form at a place becomes an object within the limits, where both keep theirs
form_fits : (f : Form) (d : Point) → IsTrue (is_form f) → IsTrue (is_near d)
    → Fits (any_outline (form_at f d))
form_fits (Rect width height) d fits near =
    let sizes = and_parts (is_size width) (is_size height) fits in
    box_fits (rect_moved (record { low = origin; width = width; height = height }) d)
    sizes.0 sizes.1 (rw (plus-origin d) near)
form_fits (Circle radius) d fits near = (fits, rw (plus-origin d) near)
form_fits (Ellipse rx ry) d fits near = (fits, rw (plus-origin d) near)
form_fits (Polygon ps) d fits near = polygon_fits ps d fits near

module _ (h : List Op) (valid : IsValid h) (items : List (Placed AnyShape))
    (ranked : AreRanked h items) where
  item_fits : (i : Placed AnyShape) → Contains items i → Fits (any_outline i.shape)
  item_fits i c =
      let w = (ranked.exactly i).1 c in
      let fits = and_parts (is_form w.version.form) (is_near w.version.place)
      (version_fits h valid w.version w.visible.version) in
      subst (λ (j : Placed AnyShape). Fits (any_outline j.shape)) (sym w.placed)
      (form_fits w.version.form w.version.place fits.0 fits.1)

  pub items_fit : All (λ (i : Placed AnyShape). Fits (any_outline i.shape)) items
  items_fit = λ k e l. item_fits (get_or items k e) (Contains-get_or items k e l)

  item_colour : (i : Placed AnyShape) → Contains items i → IsTrue (is_colour i.colour)
  item_colour i c =
      let w = (ranked.exactly i).1 c in
      let v = w.version in
      subst (λ (j : Placed AnyShape). IsTrue (is_colour j.colour)) (sym w.placed)
      (settled_fits h valid v.key.ops Colour (value.Colour v.colour) w.visible.version.colour)

  pub items_coloured : All (λ (i : Placed AnyShape). IsTrue (is_colour i.colour)) items
  items_coloured = λ k e l. item_colour (get_or items k e) (Contains-get_or items k e l)

-- ---- figures

module _ (cs : List Rgb) where
  abbrev table : Table
  table = enumerate_from 32 cs

  abbrev IsSeen : Placed AnyShape → Type 0
  IsSeen i = list_any (colour_eq i.colour) cs ≡ true

  abbrev FitsAsShape : Placed AnyShape → Type 0
  FitsAsShape i = Fits (any_outline i.shape)

  abbrev IsColoured : Placed AnyShape → Type 0
  IsColoured i = IsTrue (is_colour i.colour)

  abbrev figure_of : ℕ → Placed AnyShape → Figure Outline
  figure_of n i = figure_outlined any_outline (canonical_figure cs (n, i))

  abbrev IsMade : Change → Type 0
  IsMade c = IsTrue (is_change c)

  creation_fits : (n : ℕ) (i : Placed AnyShape) → IsSeen i → FitsAsShape i → IsColoured i
      → IsMade (creation_of table (figure_of n i))
  creation_fits n i seen fits coloured =
      let given : figure_colour table (figure_of n i) ≡ i.colour =
      ap (λ (c : Option Rgb). unwrap_or c white) (number_gives i.colour cs seen) in
      and_from _ _ (and_from _ _ (and_from _ _ fits.0 fits.1)
      (le-leb (999 - n) 9999 (omega arith))) (rw given coloured)

  pub creations_fit : (n : ℕ) (items : List (Placed AnyShape)) → All IsSeen items
      → All FitsAsShape items → All IsColoured items
      → All IsMade (map (creation_of table) (map (figure_outlined any_outline)
      (map (canonical_figure cs) (enumerate_from n items))))
  creations_fit n [] seen fits coloured = All-nil IsMade
  creations_fit n (i ∷ items) seen fits coloured = All-cons IsMade
      (creation_of table (figure_of n i))
      (map (creation_of table) (map (figure_outlined any_outline)
      (map (canonical_figure cs) (enumerate_from (n + 1) items))))
      (creation_fits n i (All-head IsSeen i items seen) (All-head FitsAsShape i items fits)
      (All-head IsColoured i items coloured))
      (creations_fit (n + 1) items (All-tail IsSeen i items seen)
      (All-tail FitsAsShape i items fits) (All-tail IsColoured i items coloured))

-- ---- the drawing

-- a lawful drawing is lawful with its outlines
outlined_lawful : (d : DrawingState AnyShape) → IsLawfulDrawing d
    → IsLawfulDrawing (outlined any_outline d)
outlined_lawful d lawful = record {
  numbers = lawful.numbers;
  distinct = lawful.distinct;
  figures = All-map (IsLawfulFigure d.table) (figure_outlined any_outline) d.figures
      lawful.figures;
}

canonical_importable : (h : List Op) (valid : IsValid h) (items : List (Placed AnyShape))
    → AreRanked h items → length items ≤ 1000 → length (colours_of items) ≤ 512
    → IsImportable (outlined any_outline (canonical_drawing items))
canonical_importable h valid items ranked few colours =
    let cs = colours_of items in
    let lawful = lawful_canonical items few colours in
    record {
      drawing = outlined_lawful (canonical_drawing items) lawful;
      outlines = All-map (λ (f : Figure Outline). IsLawful f.shape) (figure_outlined any_outline)
          (canonical_figures items)
          (figures_outlined cs 0 items (items_outlined h valid items ranked));
      in_range = creations_fit cs 0 items (own_colour items) (items_fit h valid items ranked)
          (items_coloured h valid items ranked);
      few = rw (
        length-map (canonical_figures items) (figure_outlined any_outline),
        length-map (enumerate_from 0 items) (canonical_figure cs),
        length-enumerate_from 0 items,
      ) (omega (arith, few));
    }

-- the drawing of the outlines of what a history shows can be imported
pub shown_importable : (h : List Op) (d : DrawingState AnyShape) → IsValid h → IsCanonical h d
    → IsImportable (outlined any_outline d)
shown_importable h d valid c =
    subst (λ (e : DrawingState AnyShape). IsImportable (outlined any_outline e)) (sym c.drawing)
    (canonical_importable h valid c.items c.ranked c.fits.versions c.fits.colours)
