use Rattle.std.proofs.Common.{◌≡◌, [], All, length}
use Rattle.gf_raster.proofs.tiles.blank.Given as goal

abbrev pub invariant-loop-i : goal.invariant-loop-i
invariant-loop-i l = record {
  count : length l.pieces.items ≡ l.i;
  blank : All (λ p. p.items ≡ []) l.pieces.items;
}
