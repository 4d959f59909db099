use Rattle.std.proofs.Common.{ℕ, ◌≡◌, ◌+◌, ◌<◌, length}
use Rattle.gf_plane.specs.declared.colour.Rgb.{Rgb}
use Rattle.gf_plane.specs.declared.point.Point.{Point}
use Rattle.gf_scanline.specs.Windows.{View}
use Rattle.gf_scanline.specs.Picture.{rows}
use Rattle.gf_raster.specs.Shares.{cut}
use Rattle.gf_raster.specs.Columns.{AreColumns}
use Rattle.gf_raster.proofs.gathering.gather.Given as goal

abbrev pub invariant-loop-i : goal.invariant-loop-i
invariant-loop-i l = (colour : Point → Rgb) (w : View) (top size : ℕ)
    → ((i : ℕ) → i < l.count → AreColumns colour w (top + i) i size l.columns)
    → cut w.width size (length l.columns) ≡ w.width
    → l.bytes.items ≡ rows colour w top l.i
