use Rattle.std.proofs.Common.{ℕ, ◌++◌, All, drop}
use Rattle.gf_scanline.specs.Bands.{HasRow}
use Rattle.gf_scanline.specs.Pieces.{AreSeen, IsPiece, layers_of}
use Rattle.gf_scanline.proofs.part.pieces_of.Given as goal

abbrev pub invariant-loop-layer : goal.invariant-loop-layer
invariant-loop-layer g l = record {
  pieces : (j : ℕ) → HasRow l.band j → All (IsPiece g.S.Shape.holds l.band.window j) l.pieces.items;
  seen : AreSeen g.S.Shape.holds l.band l.layers (layers_of l.pieces.items ++ drop l.layer-index
      l.layers);
}
