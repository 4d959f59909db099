use Rattle.std.proofs.Common.{◌≡◌, ◌++◌, take}
use Rattle.gf_raster.specs.Rows.{bytes_in}
use Rattle.gf_raster.proofs.painting.add_pieces.Given as goal

abbrev pub invariant-loop-piece : goal.invariant-loop-piece
invariant-loop-piece l = l.bytes.items ≡ l.initial.bytes.items ++ bytes_in
    (take l.piece-index l.pieces)
