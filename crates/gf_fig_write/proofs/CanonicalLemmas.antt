-- The canonical drawing of a history is lawful, with lawful outlines and colours of bytes. So its
-- text shows the history.
use Rattle.std.proofs.Common.{◌≡◌, ◌≢◌, ℕ, ◌+◌, ◌<◌, ◌≤◌, true, List, [], ◌∷◌, map, length, get_or}
use Rattle.std.proofs.Common.{refl, sym, subst, arith}
use Rattle.std.specs.Prelude.{All, AllPairs, Contains, IsTrue, nat_le, not, filter}
use Rattle.std.specs.List.{enumerate_from, list_all, list_any}
use Rattle.std.proofs.lemmas.Bool.{and_parts, and_from, le-leb, leb-true}
use Rattle.std.proofs.lemmas.List.{length-map}
use Rattle.std.proofs.lemmas.List.Elements.{All-cons, All-filter, All-head, All-map, All-nil}
use Rattle.std.proofs.lemmas.List.Elements.{All-tail, Contains-get_or}
use Rattle.std.proofs.lemmas.List.Kept.{AllPairs-cons}
use Rattle.gf_shape.specs.declared.any_shape.AnyShape.{AnyShape}
use Rattle.gf_plane.specs.declared.colour.Rgb.{Rgb}
use Rattle.gf_plane.specs.declared.point.Point.{Point}
use Rattle.gf_shape.specs.Area.{Area}
use Rattle.gf_plane.specs.Moving.{plus}
use Rattle.gf_shape.specs.Oblong.{is_radius}
use Rattle.gf_shape.specs.Outlines.{any_outline}
use Rattle.gf_plane.specs.PointCounts.{is_polygon_count}
use Rattle.gf_plane.specs.Reach.{is_within_reach}
use Rattle.gf_shape.specs.ShapeLaws.{IsLawful}
use Rattle.gf_shape.specs.ShapeMoves.{points_movable, points_moved, rect_moved}
use Rattle.gf_shape.proofs.BoxLemmas.{IsRing-corners_again, is_area-moved}
use Rattle.gf_shape.proofs.RingLemmas.{IsRing-ring_of}
use Rattle.gf_plane.specs.ColourBytes.{HasBytes}
use Rattle.gf_ops.proofs.ColourLemmas.{bytes_within}
use Rattle.gf_ops.specs.ConflictTests.{colour_eq}
use Rattle.gf_ops.specs.Limits.{is_form, is_near, is_size}
use Rattle.gf_ops.specs.ValidHistory.{IsValid}
use Rattle.gf_ops.specs.declared.op.Op.{Op}
use Rattle.gf_ops.specs.declared.change.Attr.TheVariants.{Colour}
use Rattle.gf_ops.specs.declared.change.Value.TheVariants as value
use Rattle.gf_ops.specs.declared.change.Form.{Form}
use Rattle.gf_ops.specs.declared.change.Form.TheVariants.{Rect, Circle, Ellipse, Polygon}
use Rattle.gf_versions.specs.declared.placed.Placed.{Placed}
use Rattle.gf_versions.specs.Ranking.{AreRanked, form_at, origin}
use Rattle.gf_versions.proofs.LimitLemmas.{settled_fits, version_fits}
use Rattle.gf_versions.proofs.ShapeLemmas.{is_area-sizes, is_polygon-lawful, shape_movable}
use Rattle.gf_figures.specs.DrawingState.{DrawingState, IsLawfulDrawing, IsLawfulFigure}
use Rattle.gf_figures.specs.DrawingState.{is_table_number}
use Rattle.gf_figures.specs.Outlined.{outlined}
use Rattle.gf_drawing.specs.CanonicalDrawing.{IsCanonical, PaintsAsFig, canonical_drawing}
use Rattle.gf_drawing.specs.CanonicalDrawing.{canonical_figure, colours_of, first_seen, number_of}
use Rattle.gf_drawing.proofs.CanonicalColour.{canonical_colour-outlined}
use Rattle.gf_drawing.proofs.CompilingLemmas.{own_colour}
use Rattle.gf_drawing.proofs.NumberLemmas.{lawful_numbered}
use Rattle.gf_fig_read.specs.FigGrammar.{Reads}
use Rattle.gf_fig_read.specs.Objects.{Drawn}
use Rattle.gf_fig_read.proofs.GrammarLemmas.{one_drawing}
use Rattle.gf_fig_write.specs.FigText.{fig_text}
use Rattle.gf_fig_write.specs.ShownHistory.{Shows}
use Rattle.gf_fig_write.proofs.ReadingBack.{DrawsLawfully, text_reads}

-- ---- outlines

moved_within : (ps : List Point) (d : Point) → IsTrue (points_movable ps d)
    → IsTrue (list_all is_within_reach (points_moved ps d))
moved_within [] d movable = refl
moved_within (p ∷ ps) d movable =
    let parts = and_parts (is_within_reach (plus p d)) (points_movable ps d) movable in
    and_from (is_within_reach (plus p d)) (list_all is_within_reach (points_moved ps d)) parts.0
    (moved_within ps d parts.1)

abbrev box_of : ℕ → ℕ → Area
box_of width height = record { low = origin; width = width; height = height }

size_as_radius : (n : ℕ) → IsTrue (is_size n) → IsTrue (is_radius n)
size_as_radius n size =
    let parts = and_parts (nat_le 1 n) (nat_le n 1000000) size in
    let most = leb-true n 1000000 parts.1 in
    and_from (nat_le 1 n) (nat_le n 10000000) parts.0 (le-leb n 10000000 (omega (arith, most)))

-- a form at a place has a lawful outline where both keep their limits
form_outlined : (f : Form) (place : Point) → IsTrue (is_form f) → IsTrue (is_near place)
    → IsLawful (any_outline (form_at f place))
form_outlined (Rect width height) place fits near =
    let sizes = and_parts (is_size width) (is_size height) fits in
    IsRing-corners_again (rect_moved (box_of width height) place)
    (is_area-moved (box_of width height) place (is_area-sizes width height sizes.0 sizes.1)
    (shape_movable (Rect width height) place fits near))
form_outlined (Circle radius) place fits near =
    let size = and_parts (nat_le 1 radius) (nat_le radius 1000000) fits in
    let most = leb-true radius 1000000 size.1 in
    and_from _ _ (and_from _ _ (shape_movable (Circle radius) place fits near) size.0)
    (le-leb radius 10000000 (omega (arith, most)))
form_outlined (Ellipse rx ry) place fits near =
    let sizes = and_parts (is_size rx) (is_size ry) fits in
    and_from _ _ (and_from _ _ (shape_movable (Ellipse rx ry) place fits near)
    (size_as_radius rx sizes.0)) (size_as_radius ry sizes.1)
form_outlined (Polygon ps) place fits near =
    let lawful = is_polygon-lawful ps fits in
    let count = subst (λ n. IsTrue (is_polygon_count n)) (sym (length-map ps (λ p. plus p place)))
    lawful.0 in
    IsRing-ring_of (points_moved ps place)
    (and_from _ _ count (moved_within ps place (shape_movable (Polygon ps) place fits near)))

-- ---- ranked items

module _ (h : List Op) (valid : IsValid h) (items : List (Placed AnyShape))
    (ranked : AreRanked h items) where
  abbrev IsOutlined : Placed AnyShape → Type 0
  IsOutlined i = IsLawful (any_outline i.shape)

  abbrev IsOfBytes : Placed AnyShape → Type 0
  IsOfBytes i = HasBytes i.colour

  item_outlined : (i : Placed AnyShape) → Contains items i → IsOutlined i
  item_outlined i c =
      let w = (ranked.exactly i).1 c in
      let fits = and_parts (is_form w.version.form) (is_near w.version.place)
      (version_fits h valid w.version w.visible.version) in
      subst IsOutlined (sym w.placed) (form_outlined w.version.form w.version.place fits.0 fits.1)

  item_bytes : (i : Placed AnyShape) → Contains items i → IsOfBytes i
  item_bytes i c =
      let w = (ranked.exactly i).1 c in
      let v = w.version in
      subst IsOfBytes (sym w.placed)
      (bytes_within v.colour (settled_fits h valid v.key.ops Colour (value.Colour v.colour)
      w.visible.version.colour))

  pub items_outlined : All (λ (i : Placed AnyShape). IsLawful (any_outline i.shape)) items
  items_outlined = λ k d l. item_outlined (get_or items k d) (Contains-get_or items k d l)

  pub items_bytes : All (λ (i : Placed AnyShape). HasBytes i.colour) items
  items_bytes = λ k d l. item_bytes (get_or items k d) (Contains-get_or items k d l)

-- ---- the table

numbers_within : (n : ℕ) (cs : List Rgb) → 32 ≤ n → n + length cs ≤ 544
    → All (λ (e : ℕ × Rgb). IsTrue (is_table_number e.0)) (enumerate_from n cs)
numbers_within n [] least most = All-nil (λ (e : ℕ × Rgb). IsTrue (is_table_number e.0))
numbers_within n (c ∷ cs) least most =
    let low : IsTrue (nat_le 32 n) = le-leb 32 n least in
    let high : IsTrue (nat_le n 543) = le-leb n 543 (omega (arith, most)) in
    All-cons (λ (e : ℕ × Rgb). IsTrue (is_table_number e.0)) (n, c) (enumerate_from (n + 1) cs)
    (and_from (nat_le 32 n) (nat_le n 543) low high)
    (numbers_within (n + 1) cs (omega (arith, least)) (omega (arith, most)))

numbers_above : (m n : ℕ) (cs : List Rgb) → m < n
    → All (λ (e : ℕ × Rgb). m < e.0) (enumerate_from n cs)
numbers_above m n [] less = All-nil (λ (e : ℕ × Rgb). m < e.0)
numbers_above m n (c ∷ cs) less = All-cons (λ (e : ℕ × Rgb). m < e.0) (n, c)
    (enumerate_from (n + 1) cs) less (numbers_above m (n + 1) cs (omega (arith, less)))

numbers_apart : (n : ℕ) (cs : List Rgb)
    → AllPairs (λ (e f : ℕ × Rgb). e.0 ≢ f.0) (enumerate_from n cs)
numbers_apart n [] = λ i j d l m. absurd (omega arith)
numbers_apart n (c ∷ cs) = AllPairs-cons (λ (e f : ℕ × Rgb). e.0 ≢ f.0) (n, c)
    (enumerate_from (n + 1) cs)
    (λ k d l same. let less = numbers_above n (n + 1) cs (omega arith) k d l in
    absurd (omega (arith, less, same)))
    (numbers_apart (n + 1) cs)

pub seen_bytes : (cs : List Rgb) → All HasBytes cs → All HasBytes (first_seen cs)
seen_bytes [] bytes = bytes
seen_bytes (c ∷ cs) bytes =
    All-cons HasBytes c (filter (λ d. not (colour_eq c d)) (first_seen cs))
    (All-head HasBytes c cs bytes)
    (All-filter (λ d. not (colour_eq c d)) HasBytes (first_seen cs)
    (seen_bytes cs (All-tail HasBytes c cs bytes)))

pub table_bytes : (n : ℕ) (cs : List Rgb) → All HasBytes cs
    → All (λ (e : ℕ × Rgb). HasBytes e.1) (enumerate_from n cs)
table_bytes n [] bytes = All-nil (λ (e : ℕ × Rgb). HasBytes e.1)
table_bytes n (c ∷ cs) bytes = All-cons (λ (e : ℕ × Rgb). HasBytes e.1) (n, c)
    (enumerate_from (n + 1) cs) (All-head HasBytes c cs bytes)
    (table_bytes (n + 1) cs (All-tail HasBytes c cs bytes))

-- ---- the figures

module _ (cs : List Rgb) where
  abbrev IsSeen : Placed AnyShape → Type 0
  IsSeen i = list_any (colour_eq i.colour) cs ≡ true

  abbrev HasOutline : Placed AnyShape → Type 0
  HasOutline i = IsLawful (any_outline i.shape)

  figures_lawful : (n : ℕ) (items : List (Placed AnyShape)) → All IsSeen items
      → n + length items ≤ 1000 → All (IsLawfulFigure (enumerate_from 32 cs))
      (map (canonical_figure cs) (enumerate_from n items))
  figures_lawful n [] seen few = All-nil (IsLawfulFigure (enumerate_from 32 cs))
  figures_lawful n (i ∷ items) seen few = All-cons (IsLawfulFigure (enumerate_from 32 cs))
      (canonical_figure cs (n, i)) (map (canonical_figure cs) (enumerate_from (n + 1) items))
      (lawful_numbered (enumerate_from 32 cs) cs i.colour i.shape (number_of cs i.colour) n refl
      refl (All-head IsSeen i items seen) (omega (arith, few)))
      (figures_lawful (n + 1) items (All-tail IsSeen i items seen) (omega (arith, few)))

  pub figures_outlined : (n : ℕ) (items : List (Placed AnyShape)) → All HasOutline items
      → All (DrawsLawfully any_outline) (map (canonical_figure cs) (enumerate_from n items))
  figures_outlined n [] lawful = All-nil (DrawsLawfully any_outline)
  figures_outlined n (i ∷ items) lawful = All-cons (DrawsLawfully any_outline)
      (canonical_figure cs (n, i)) (map (canonical_figure cs) (enumerate_from (n + 1) items))
      (All-head HasOutline i items lawful)
      (figures_outlined (n + 1) items (All-tail HasOutline i items lawful))

-- ---- the drawing

pub lawful_canonical : (items : List (Placed AnyShape)) → length items ≤ 1000
    → length (colours_of items) ≤ 512 → IsLawfulDrawing (canonical_drawing items)
lawful_canonical items few colours = record {
  numbers = numbers_within 32 (colours_of items) (omega arith) (omega (arith, colours));
  distinct = numbers_apart 32 (colours_of items);
  figures = figures_lawful (colours_of items) 0 items (own_colour items) (omega (arith, few));
}

-- the text of the drawing reads as the drawing of the outlines
pub canonical_reads : (h : List Op) (d : DrawingState AnyShape) → IsValid h → IsCanonical h d
    → Reads (fig_text any_outline d) (outlined any_outline d)
canonical_reads h d valid c =
    let items = c.items in
    subst (λ (e : DrawingState AnyShape). Reads (fig_text any_outline e) (outlined any_outline e))
    (sym c.drawing)
    (text_reads any_outline (canonical_drawing items)
    (lawful_canonical items c.fits.versions c.fits.colours)
    (table_bytes 32 (colours_of items) (seen_bytes (map (λ (i : Placed AnyShape). i.colour) items)
    (All-map HasBytes (λ (i : Placed AnyShape). i.colour) items
    (items_bytes h valid items c.ranked))))
    (figures_outlined (colours_of items) 0 items (items_outlined h valid items c.ranked)))

-- the FIG text of a drawing with the colours that h means shows h
pub shows : (h : List Op) (drawing : DrawingState AnyShape)
    → PaintsAsFig h (outlined any_outline drawing)
    → Reads (fig_text any_outline drawing) (outlined any_outline drawing)
    → Shows (fig_text any_outline drawing) h
shows h drawing figures reads = record {
  drawing = outlined any_outline drawing;
  reads = reads;
  colours = λ (d : Drawn) other. subst (PaintsAsFig h)
      (one_drawing (fig_text any_outline drawing) (outlined any_outline drawing) d reads other)
      figures;
}

-- the text of the canonical drawing shows the history
pub canonical_shows : (h : List Op) (d : DrawingState AnyShape) → IsValid h → IsCanonical h d
    → Shows (fig_text any_outline d) h
canonical_shows h d valid c = shows h d (canonical_colour-outlined h d c)
    (canonical_reads h d valid c)
