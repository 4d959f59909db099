use Rattle.std.proofs.Common.{◌≡◌, take}
use Rattle.std.specs.Io.KnownBytes.{Appends}
use Rattle.gf_raster.specs.Rows.{bytes_in}
use Rattle.gf_raster.proofs.ppm.write_pieces.Given as goal

abbrev pub invariant-loop-piece : goal.invariant-loop-piece
invariant-loop-piece g l = record {
  wrote : Appends (g.W.Sink.taken l.initial.sink) (g.W.Sink.taken l.sink)
      (bytes_in (take l.piece-index l.pieces));
  unfailed : g.W.Sink.failures l.sink ≡ g.W.Sink.failures l.initial.sink;
}
