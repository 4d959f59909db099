-- What rows of a window show, as strokes and as bytes. No public clause cites this module.
use Rattle.std.specs.Prelude.{ℕ, ◌≡◌, ◌<◌, ◌+◌, Bool, List, Vec, flat_map, length, slice_index_or}
use Rattle.std.proofs.Common.{Global}
use Rattle.gf_plane.specs.declared.colour.Rgb.{Rgb}
use Rattle.gf_plane.specs.declared.point.Point.{Point}
use Rattle.gf_scanline.specs.declared.stroke.Stroke.{Stroke}
use Rattle.gf_scanline.specs.Bands.{BandView}
use Rattle.gf_scanline.specs.Windows.{View}
use Rattle.gf_scanline.specs.Layers.{layered}
use Rattle.gf_scanline.specs.Parts.{PartView}
use Rattle.gf_scanline.specs.Picture.{ShowsRow, rows}
use Rattle.gf_raster.specs.declared.shown_rows.ShownRows.{ShownRows}
use Rattle.gf_raster.specs.Shares.{cut, run}

-- each list has the strokes of a row of the window, from row top on
abbrev pub AreRows : (Point → Rgb) → View → ℕ → List (Vec Stroke Global) → Type 0
AreRows colour w top rows = (i : ℕ) (d : Vec Stroke Global) → i < length rows
    → ShowsRow colour w (top + i) (slice_index_or rows i d).items

-- the strokes have the colours of their rows
abbrev pub ShowsRows : (Point → Rgb) → ShownRows → Type 0
ShowsRows colour shown = AreRows colour shown.band.window shown.band.top shown.strokes.items

-- the bytes of a band's rows
abbrev pub bytes_of : (Point → Rgb) → BandView → List ℕ
bytes_of colour b = rows colour b.window b.top b.count

-- the bytes of pieces, one behind the other
abbrev pub bytes_in : List (Vec ℕ Global) → List ℕ
bytes_in pieces = flat_map (λ p. p.items) pieces

-- each piece has the bytes of a run of a band's rows, cut in runs of size rows
abbrev pub AreRunsOf : (Point → Rgb) → BandView → ℕ → List (Vec ℕ Global) → Type 0
AreRunsOf colour b size pieces = (k : ℕ) (d : Vec ℕ Global) → k < length pieces
    → (slice_index_or pieces k d).items
    ≡ rows colour b.window (b.top + cut b.count size k) (run b.count size k)

module _ {S : Type 0} (holds : S → Point → Bool) (p : PartView S) (size : ℕ) where
  -- the strokes show the rows of the part that worker k has, where each has size rows
  pub record IsShareOf (k : ℕ) (rows : Vec (Vec Stroke Global) Global) : Type 0 where
    pub count : length rows.items ≡ run p.band.count size k
    pub strokes : AreRows (layered holds p.layers) p.band.window
        (p.band.top + cut p.band.count size k) rows.items

  -- each share shows the rows of its worker
  abbrev pub AreSharesOf : List (Vec (Vec Stroke Global) Global) → Type 0
  AreSharesOf shares = (k : ℕ) (d : Vec (Vec Stroke Global) Global) → k < length shares
      → IsShareOf k (slice_index_or shares k d)
