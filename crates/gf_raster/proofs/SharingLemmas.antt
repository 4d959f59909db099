-- What workers did of a band that they share: their columns side by side, and their shares one
-- below the other.
use Rattle.std.specs.Prelude.{ℕ, zero, suc, ◌≡◌, ◌≤◌, ◌<◌, ◌+◌, ◌*◌, min, Bool, List, [], ◌∷◌, ◌++◌}
use Rattle.std.specs.Prelude.{Vec, flat_map}
use Rattle.std.specs.Prelude.{length, slice_index_or}
use Rattle.std.proofs.Common.{arith, ap, subst, Global, length-append, ◌∙◌}
use Rattle.gf_plane.specs.declared.colour.Rgb.{Rgb}
use Rattle.gf_plane.specs.declared.point.Point.{Point}
use Rattle.gf_scanline.specs.declared.stroke.Stroke.{Stroke}
use Rattle.gf_scanline.specs.Windows.{View}
use Rattle.gf_scanline.specs.Layers.{layered}
use Rattle.gf_scanline.specs.Parts.{PartView}
use Rattle.gf_scanline.specs.Picture.{ShowsRow, cells}
use Rattle.gf_raster.specs.declared.shown_rows.ShownRows.{ShownRows}
use Rattle.gf_raster.specs.Rows.{AreRows, AreSharesOf, ShowsRows}
use Rattle.gf_raster.specs.Shares.{cut, parts, run, stride}
use Rattle.gf_raster.specs.Columns.{AreColumns, HaveAllPieces}
use Rattle.gf_raster.proofs.ShareLemmas.{cut_more, shared}

-- a row above others
rows_cons : (colour : Point → Rgb) (w : View) (top : ℕ) (x : Vec Stroke Global)
    (xs : List (Vec Stroke Global)) → ShowsRow colour w (top + 0) x.items
    → AreRows colour w (top + 1) xs → AreRows colour w top (x ∷ xs)
rows_cons colour w top x xs a b zero d l = a
rows_cons colour w top x xs a b (suc i) d l = let e : top + 1 + i ≡ top + suc i = omega arith in
    rw e at (b i d (omega (arith, l)))

-- rows below others
rows_append : (colour : Point → Rgb) (w : View) (top : ℕ) (xs ys : List (Vec Stroke Global))
    → AreRows colour w top xs → AreRows colour w (top + length xs) ys
    → AreRows colour w top (xs ++ ys)
rows_append colour w top [] ys g h = subst (λ n. AreRows colour w n ys) (omega arith) h
rows_append colour w top (x ∷ xs) ys g h =
    rows_cons colour w top x (xs ++ ys) (g zero x (omega arith))
    (rows_append colour w (top + 1) xs ys
    (λ i d l. let e : top + suc i ≡ top + 1 + i = omega arith in
    rw e at (g (suc i) d (omega (arith, l))))
    (subst (λ n. AreRows colour w n ys) (omega arith) h))

-- shares from worker k on
shares_from : (colour : Point → Rgb) (w : View) (top count size k : ℕ)
    (ts : List (Vec (Vec Stroke Global) Global))
    → ((i : ℕ) (d : Vec (Vec Stroke Global) Global) → i < length ts
    → (length (slice_index_or ts i d).items ≡ run count size (k + i)) × AreRows colour w
    (top + cut count size (k + i)) (slice_index_or ts i d).items)
    → (cut count size k + length (flat_map (λ (t : Vec (Vec Stroke Global) Global). t.items)
    ts) ≡ cut count size (k + length ts)) × AreRows colour w (top + cut count size k)
    (flat_map (λ (t : Vec (Vec Stroke Global) Global). t.items) ts)
shares_from colour w top count size k [] h = (
  (let e : k + 0 ≡ k = omega arith in rw e (none (cut count size k))),
  λ i d l. absurd (omega (arith, l)),
)
  where
    none : (n : ℕ) → n + 0 ≡ n
    none n = omega arith
shares_from colour w top count size k (t ∷ ts) h =
    let here : k + 0 ≡ k = omega arith in
    let first = rw here at (h zero t (omega arith)) in
    let rest = shares_from colour w top count size (k + 1) ts
    (λ i d l. let e : k + suc i ≡ k + 1 + i = omega arith in
    rw e at (h (suc i) d (omega (arith, l)))) in
    let more = cut_more count size k in
    let found = flat_map (λ (t : Vec (Vec Stroke Global) Global). t.items) ts in
    let end : k + suc (length ts) ≡ k + 1 + length ts = omega arith in (
      rw (length-append t.items found, end)
          (sums (cut count size k) (run count size k) (cut count size (k + 1)) (length t.items)
          (length found) (cut count size (k + 1 + length ts)) more first.0 rest.0),
      rows_append colour w (top + cut count size k) t.items found first.1
          (subst (λ n. AreRows colour w n found)
          (place top (cut count size (k + 1)) (cut count size k) (run count size k) (length t.items)
          more first.0) rest.1),
    )
  where
    sums : (a r c x f e : ℕ) → c ≡ a + r → x ≡ r → c + f ≡ e → a + (x + f) ≡ e
    sums a r c x f e g h i = omega arith

    place : (t c a r x : ℕ) → c ≡ a + r → x ≡ r → t + c ≡ t + a + x
    place t c a r x g h = omega arith

-- the workers found all rows
pub found_of : {S : Type 0} (holds : S → Point → Bool) (p : PartView S) (workers : ℕ)
    (shares : List (Vec (Vec Stroke Global) Global)) → 1 ≤ workers → length shares ≡ workers
    → AreSharesOf holds p (parts p.band.count workers) shares
    → (length (flat_map (λ (s : Vec (Vec Stroke Global) Global). s.items) shares) ≡ p.band.count)
    × AreRows (layered holds p.layers) p.band.window p.band.top
    (flat_map (λ (s : Vec (Vec Stroke Global) Global). s.items) shares)
found_of holds p workers shares l n a =
    let count = p.band.count in
    let size = parts count workers in
    let found = flat_map (λ (s : Vec (Vec Stroke Global) Global). s.items) shares in
    let all = shares_from (layered holds p.layers) p.band.window p.band.top count size 0 shares
    (λ i d m. let e : 0 + i ≡ i = omega arith in rw e ((a i d m).count, (a i d m).strokes)) in
    let end : 0 + length shares ≡ workers = omega (arith, n) in (
      whole (length found) (cut count size 0) count (nothing size count) ((rw end at all.0)
          ∙ shared count workers l),
      subst (λ n. AreRows (layered holds p.layers) p.band.window n found)
          (still p.band.top (cut count size 0) (nothing size count)) all.1,
    )
  where
    nothing : (s n : ℕ) → min (0 * s) n ≡ 0
    nothing s n = omega arith

    whole : (x c n : ℕ) → c ≡ 0 → c + x ≡ n → x ≡ n
    whole x c n e f = omega arith

    still : (t c : ℕ) → c ≡ 0 → t + c ≡ t
    still t c e = omega arith

-- the workers' columns of a row
pub columns_of : (shown : ShownRows) (workers : ℕ) (colour : Point → Rgb)
    (columns : List (Vec (Vec ℕ Global) Global)) (i : ℕ) → HaveAllPieces shown workers columns
    → ShowsRows colour shown → i < length shown.strokes.items
    → AreColumns colour shown.band.window (shown.band.top + i) i (stride shown.band.window workers)
    columns
columns_of shown workers colour columns i a h l = λ k d e m. (a k d m).filled colour h i e
    (rw (a k d m).lines l)

-- the columns of one of the workers
pub column_at : (colour : Point → Rgb) (w : View) (j i size k : ℕ)
    (columns : List (Vec (Vec ℕ Global) Global)) (t : Vec (Vec ℕ Global) Global) (p : Vec ℕ Global)
    (bytes : List ℕ) → AreColumns colour w j i size columns → k < length columns
    → t ≡ slice_index_or columns k t → p ≡ slice_index_or t.items i p → bytes ≡ p.items
    → bytes ≡ cells colour w j (cut w.width size k) (run w.width size k)
column_at colour w j i size k columns t p bytes h l e f g =
    let there = h k t p l in
    g ∙ (ap (λ (v : Vec ℕ Global). v.items) f
    ∙ (ap (λ (u : Vec (Vec ℕ Global) Global). (slice_index_or u.items i p).items) e ∙ there))
