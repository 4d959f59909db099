use Rattle.std.proofs.Common.{◌≡◌, ◌++◌}
use Rattle.gf_scanline.specs.Layers.{layered}
use Rattle.gf_scanline.specs.Picture.{rows}
use Rattle.gf_raster.proofs.runs.add_band.Given as goal

abbrev pub invariant-loop-i : goal.invariant-loop-i
invariant-loop-i g l = l.bytes.items ≡ l.initial.bytes.items ++ rows
    (layered g.S.Shape.holds l.layers) l.fn.band.window l.fn.band.top l.i
