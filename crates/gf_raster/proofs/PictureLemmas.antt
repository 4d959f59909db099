-- A picture, band by band, and what is written of it.
use Rattle.std.specs.Prelude.{ℕ, zero, suc, [], ◌∷◌, drop, Vec, slice_index_or, ◌≡◌, ◌≤◌, ◌<◌, ◌+◌}
use Rattle.std.specs.Prelude.{◌-◌, ◌*◌, ◌/◌, ◌%◌, min, List, ◌++◌, length, take, Option}
use Rattle.std.proofs.Common.{arith, ap, append-nil, append_assoc, sym, refl, subst, Global, ◌∙◌}
use Rattle.std.specs.Io.KnownBytes.{Appends}
use Rattle.std.proofs.KnownBytes.{Appends-trans}
use Rattle.std.proofs.lemmas.List.{length-append, take-append-le}
use Rattle.std.proofs.Math.Seq.{take-append-add}
use Rattle.gf_plane.specs.declared.colour.Rgb.{Rgb}
use Rattle.gf_plane.specs.declared.point.Point.{Point}
use Rattle.gf_streams.specs.Taken.{AppendsPrefix}
use Rattle.gf_scanline.proofs.RangeLemmas.{ranged_more}
use Rattle.gf_scanline.specs.Pixels.{pixel}
use Rattle.gf_scanline.specs.Picture.{cells, rows}
use Rattle.gf_scanline.specs.Windows.{View, sample}
use Rattle.gf_scanline.specs.Bands.{BandView}
use Rattle.gf_raster.specs.Rows.{bytes_in, bytes_of}
use Rattle.gf_raster.specs.Shares.{AreWholeBands, cut, run}
use Rattle.gf_raster.proofs.ShareLemmas.{cut_more}

-- the rows of a window, cut in two
pub rows_more : (colour : Point → Rgb) (w : View) (top m n : ℕ)
    → rows colour w top (m + n) ≡ rows colour w top m ++ rows colour w (top + m) n
rows_more colour w top m n = ranged_more (λ j. cells colour w j 0 w.width) top m n

-- a band more
pub band_added : (colour : Point → Rgb) (w : View) (b : BandView) (top done : ℕ) (old new : List ℕ)
    → b.window ≡ w → b.top ≡ top + done → old ≡ rows colour w top done
    → new ≡ old ++ bytes_of colour b → new ≡ rows colour w top (done + b.count)
band_added colour w b top done old new e f a g =
    g ∙ (ap (λ v. old ++ rows colour v b.top b.count) e
    ∙ (ap (λ xs. xs ++ rows colour w b.top b.count) a
    ∙ (ap (λ j. rows colour w top done ++ rows colour w j b.count) f
    ∙ sym (rows_more colour w top done b.count))))

-- the rows from the top, with those of a band more
rows_below : (colour : Point → Rgb) (w : View) (done n : ℕ)
    → rows colour w 0 done ++ rows colour w done n ≡ rows colour w 0 (done + n)
rows_below colour w done n = sym (rows_more colour w 0 done n
    ∙ ap (λ j. rows colour w 0 done ++ rows colour w j n) (zero_plus done))
  where
    zero_plus : (n : ℕ) → 0 + n ≡ n
    zero_plus n = omega arith

-- a band written behind rows
pub rows_written : (colour : Point → Rgb) (w : View) (done n : ℕ) (a b c : Option (List ℕ))
    → Appends a b (rows colour w 0 done) → Appends b c (rows colour w done n)
    → Appends a c (rows colour w 0 (done + n))
rows_written colour w done n a b c f g = subst (λ bytes. Appends a c bytes)
    (rows_below colour w done n) (Appends-trans a b c (rows colour w 0 done) (rows colour w done n)
    f g)

-- what was written, a band, and what is to come are all rows
pub rows_parted : (colour : Point → Rgb) (w : View) (height done n : ℕ) → done + n ≤ height
    → rows colour w 0 height ≡ rows colour w 0 done ++ (rows colour w done n ++ rows colour w
    (done + n) (height - (done + n)))
rows_parted colour w height done n l =
    let all : height ≡ done + n + (height - (done + n)) = omega (arith, l) in
    ap (rows colour w 0) all
    ∙ (sym (rows_below colour w (done + n) (height - (done + n)))
    ∙ (ap (λ xs. xs ++ rows colour w (done + n) (height - (done + n)))
    (sym (rows_below colour w done n))
    ∙ append_assoc (rows colour w 0 done) (rows colour w done n)
    (rows colour w (done + n) (height - (done + n)))))

-- pieces up to one, this one, and those behind it
pub pieces_parted : (ps : List (Vec ℕ Global)) (i : ℕ) (d : Vec ℕ Global) → i < length ps
    → bytes_in ps ≡ bytes_in (take i ps) ++ ((slice_index_or ps i d).items ++ bytes_in
    (drop (suc i) ps))
pieces_parted [] i d l = absurd (omega (arith, l))
pieces_parted (p ∷ ps) zero d l = refl
pieces_parted (p ∷ ps) (suc i) d l =
    ap (λ xs. p.items ++ xs) (pieces_parted ps i d (omega (arith, l)))
    ∙ sym (append_assoc p.items (bytes_in (take i ps))
    ((slice_index_or ps i d).items ++ bytes_in (drop (suc i) ps)))

-- a function that gives the same colours gives the same rows
pub rows_same : (f g : Point → Rgb) → ((p : Point) → f p ≡ g p) → (w : View) (j n : ℕ)
    → rows f w j n ≡ rows g w j n
rows_same f g e w j n = ap (λ (c : Point → Rgb). rows c w j n) (λ i p. e p i)

-- one row more
pub rows_pushed : (colour : Point → Rgb) (w : View) (top i : ℕ) (old now new : List ℕ)
    → now ≡ old ++ rows colour w top i → new ≡ now ++ cells colour w (top + i) 0 w.width
    → new ≡ old ++ rows colour w top (i + 1)
rows_pushed colour w top i old now new a b =
    b ∙ (ap (λ xs. xs ++ cells colour w (top + i) 0 w.width) a
    ∙ (append_assoc old (rows colour w top i) (cells colour w (top + i) 0 w.width)
    ∙ ap (λ xs. old ++ xs) (sym (ranged_more (λ j. cells colour w j 0 w.width) top i 1
    ∙ ap (λ xs. rows colour w top i ++ xs) (append-nil (cells colour w (top + i) 0 w.width))))))

-- one worker's columns more
pub cells_pushed : (colour : Point → Rgb) (w : View) (j size k : ℕ) (old now piece new : List ℕ)
    → now ≡ old ++ cells colour w j 0 (cut w.width size k)
    → piece ≡ cells colour w j (cut w.width size k) (run w.width size k) → new ≡ now ++ piece
    → new ≡ old ++ cells colour w j 0 (cut w.width size (k + 1))
cells_pushed colour w j size k old now piece new a b c =
    let from = cut w.width size k in
    let len = run w.width size k in
    let more : cells colour w j 0 (cut w.width size (k + 1)) ≡ cells colour w j 0 from ++ cells
    colour w j from len =
    ap (cells colour w j 0) (cut_more w.width size k)
    ∙ (ranged_more (λ i. pixel (colour (sample w i j))) 0 from len
    ∙ ap (λ i. cells colour w j 0 from ++ cells colour w j i len) (zero_plus from)) in
    c ∙ (ap (λ xs. xs ++ piece) a
    ∙ (append_assoc old (cells colour w j 0 from) piece
    ∙ (ap (λ xs. old ++ (cells colour w j 0 from ++ xs)) b
    ∙ ap (λ xs. old ++ xs) (sym more))))
  where
    zero_plus : (n : ℕ) → 0 + n ≡ n
    zero_plus n = omega arith

-- a tile that is counted begins before the end
pub begins : (height i : ℕ) → i < height / 64 + min 1 (height % 64) → 64 * i < height
begins height i l = omega arith

-- this many tiles are all
pub ends : (height i : ℕ) → height / 64 + min 1 (height % 64) ≤ i → min (64 * i) height ≡ height
ends height i l = omega arith

-- whole bands below whole bands
pub whole_more : (m n : ℕ) → AreWholeBands m → AreWholeBands n → AreWholeBands (m + n)
whole_more m n a b = record { bands = a.bands + b.bands; are = omega (arith, a.are, b.are) }

-- a front of what comes next, behind what came, is a front of all
pub front_more : (a b c : Option (List ℕ)) (xs ys whole rest : List ℕ) → whole ≡ xs ++ (ys ++ rest)
    → Appends a b xs → AppendsPrefix b c ys → AppendsPrefix a c whole
front_more a b c xs ys whole rest e p q =
    let n = q.0 in
    let cut : take (length xs + n) whole ≡ xs ++ take n ys = ap (take (length xs + n)) e
    ∙ (take-append-add xs (ys ++ rest) n ∙ ap (λ zs. xs ++ zs) (take-append-le n ys rest q.1)) in (
      length xs + n,
      rw (e, length-append xs (ys ++ rest), length-append ys rest)
          (sums (length xs) n (length ys) (length rest) q.1),
      rw cut (Appends-trans a b c xs (take n ys) p q.2),
    )
  where
    sums : (x n y r : ℕ) → n ≤ y → x + n ≤ x + (y + r)
    sums x n y r l = omega arith

-- a front of what comes first is a front of all
pub front_first : (a b : Option (List ℕ)) (xs whole rest : List ℕ) → whole ≡ xs ++ rest
    → AppendsPrefix a b xs → AppendsPrefix a b whole
front_first a b xs whole rest e p =
    let cut : take p.0 whole ≡ take p.0 xs = ap (take p.0) e ∙ take-append-le p.0 xs rest p.1 in
    (p.0, rw (e, length-append xs rest) (longer p.0 (length xs) (length rest) p.1), rw cut p.2)
  where
    longer : (n x r : ℕ) → n ≤ x → n ≤ x + r
    longer n x r l = omega arith
