use Rattle.std.proofs.Common.{◌≡◌, length}
use Rattle.gf_scanline.specs.Layers.{layered}
use Rattle.gf_raster.specs.Rows.{AreRows}
use Rattle.gf_raster.proofs.rows.rows_from.Given as goal

abbrev pub invariant-loop-i : goal.invariant-loop-i
invariant-loop-i g l = record {
  count : length l.rows.items ≡ l.i;
  shown : AreRows (layered g.S.Shape.holds l.part.layers) l.part.band.window l.top l.rows.items;
}
