use Rattle.std.proofs.Common.{◌≡◌, ◌-◌, ◌≤◌}
use Rattle.gf_scanline.specs.Layers.{layered}
use Rattle.gf_scanline.specs.Picture.{rows}
use Rattle.gf_raster.proofs.painting.paint_all.Given as goal

abbrev pub invariant-loop-top : goal.invariant-loop-top
invariant-loop-top g l = record {
  within : l.top ≤ l.fn.window.height;
  bytes : l.bytes.items ≡ rows (layered g.S.Shape.holds l.layers) l.fn.window 0 l.top;
}

abbrev pub decreases-loop-top : goal.decreases-loop-top
decreases-loop-top g l = l.fn.window.height - l.top
