use Rattle.std.proofs.Common.{◌≡◌, ◌-◌, ◌≤◌, ◌<◌}
use Rattle.std.specs.Io.KnownBytes.{Appends}
use Rattle.gf_scanline.specs.Layers.{layered}
use Rattle.gf_scanline.specs.Picture.{rows}
use Rattle.gf_raster.specs.Shares.{AreWholeBands}
use Rattle.gf_raster.proofs.ppm.write_rows.Given as goal

abbrev pub invariant-loop-top : goal.invariant-loop-top
invariant-loop-top g l = record {
  within : l.top ≤ l.fn.window.height;
  whole : l.top < l.fn.window.height → AreWholeBands l.top;
  wrote : Appends (g.W.Sink.taken l.initial.sink) (g.W.Sink.taken l.sink)
      (rows (layered g.S.Shape.holds l.layers) l.fn.window 0 l.top);
  unfailed : g.W.Sink.failures l.sink ≡ g.W.Sink.failures l.initial.sink;
}

abbrev pub decreases-loop-top : goal.decreases-loop-top
decreases-loop-top g l = l.fn.window.height - l.top
