-- What the workers fill of a band that they share. No public clause cites this module.
use Rattle.std.specs.Prelude.{ℕ, ◌≡◌, ◌<◌, ◌+◌, ◌++◌, List, Vec, length, slice_index_or}
use Rattle.std.proofs.Common.{Global}
use Rattle.gf_plane.specs.declared.colour.Rgb.{Rgb}
use Rattle.gf_plane.specs.declared.point.Point.{Point}
use Rattle.gf_scanline.specs.Windows.{View}
use Rattle.gf_scanline.specs.Picture.{cells}
use Rattle.gf_raster.specs.declared.shown_rows.ShownRows.{ShownRows}
use Rattle.gf_raster.specs.Rows.{ShowsRows}
use Rattle.gf_raster.specs.Shares.{cut, run, stride}

-- each piece has the bytes of a row from top on, in len columns from a first one on
abbrev pub ArePieces : (Point → Rgb) → View → ℕ → ℕ → ℕ → List (Vec ℕ Global) → Type 0
ArePieces colour w top from len pieces = (i : ℕ) (d : Vec ℕ Global) → i < length pieces
    → (slice_index_or pieces i d).items ≡ cells colour w (top + i) from len

-- the pieces new are the old ones with the bytes of len columns more, from a first one on
abbrev pub ArePiecesWith : (Point → Rgb) → View → ℕ → ℕ → ℕ → List (Vec ℕ Global)
    → List (Vec ℕ Global) → Type 0
ArePiecesWith colour w top from len old new = (i : ℕ) (d : Vec ℕ Global) → i < length new
    → (slice_index_or new i d).items
    ≡ (slice_index_or old i d).items ++ cells colour w (top + i) from len

-- worker k has a piece for each row, with the bytes of the row in the worker's columns
pub record HasPieces (shown : ShownRows) (workers k : ℕ) (pieces : Vec (Vec ℕ Global) Global)
    : Type 0 where
  pub lines : length pieces.items ≡ length shown.strokes.items
  pub filled : (colour : Point → Rgb) → ShowsRows colour shown
      → ArePieces colour shown.band.window shown.band.top
      (cut shown.band.window.width (stride shown.band.window workers) k)
      (run shown.band.window.width (stride shown.band.window workers) k) pieces.items

-- each worker has such pieces
abbrev pub HaveAllPieces : ShownRows → ℕ → List (Vec (Vec ℕ Global) Global) → Type 0
HaveAllPieces shown workers columns = (k : ℕ) (d : Vec (Vec ℕ Global) Global)
    → k < length columns → HasPieces shown workers k (slice_index_or columns k d)

-- each worker has a piece for each of `count` rows
abbrev pub HaveLines : ℕ → List (Vec (Vec ℕ Global) Global) → Type 0
HaveLines count columns = (k : ℕ) (d : Vec (Vec ℕ Global) Global) → k < length columns
    → length (slice_index_or columns k d).items ≡ count

-- the workers' pieces number i have the bytes of row j in their columns
abbrev pub AreColumns : (Point → Rgb) → View → ℕ → ℕ → ℕ → List (Vec (Vec ℕ Global) Global)
    → Type 0
AreColumns colour w j i size columns = (k : ℕ) (d : Vec (Vec ℕ Global) Global)
    (e : Vec ℕ Global) → k < length columns
    → (slice_index_or (slice_index_or columns k d).items i e).items
    ≡ cells colour w j (cut w.width size k) (run w.width size k)
