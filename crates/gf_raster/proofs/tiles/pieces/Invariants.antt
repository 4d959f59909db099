use Rattle.std.proofs.Common.{◌≡◌, ◌*◌, min, length}
use Rattle.gf_plane.specs.declared.colour.Rgb.{Rgb}
use Rattle.gf_plane.specs.declared.point.Point.{Point}
use Rattle.gf_raster.specs.Rows.{ShowsRows}
use Rattle.gf_raster.specs.Columns.{ArePieces}
use Rattle.gf_raster.proofs.tiles.pieces.Given as goal

abbrev pub invariant-loop-i : goal.invariant-loop-i
invariant-loop-i g l = record {
  count : length l.pieces.items ≡ length l.shown.strokes.items;
  filled : (colour : Point → Rgb) → ShowsRows colour l.shown
      → ArePieces colour l.shown.band.window l.shown.band.top l.start (min (64 * l.i) l.len)
      l.pieces.items;
}
