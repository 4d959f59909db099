use Rattle.std.proofs.Common.{ℕ, ◌≡◌, ◌++◌}
use Rattle.gf_plane.specs.declared.colour.Rgb.{Rgb}
use Rattle.gf_plane.specs.declared.point.Point.{Point}
use Rattle.gf_scanline.specs.Windows.{View}
use Rattle.gf_scanline.specs.Picture.{cells}
use Rattle.gf_raster.specs.Shares.{cut}
use Rattle.gf_raster.specs.Columns.{AreColumns}
use Rattle.gf_raster.proofs.gathering.gather_row.Given as goal

abbrev pub invariant-loop-pieces : goal.invariant-loop-pieces
invariant-loop-pieces l = (colour : Point → Rgb) (w : View) (j size : ℕ)
    → AreColumns colour w j l.i size l.columns
    → l.bytes.items ≡ l.initial.bytes.items ++ cells colour w j 0 (cut w.width size l.pieces-index)
