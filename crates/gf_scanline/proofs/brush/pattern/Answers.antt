use Rattle.std.proofs.Common.{refl}
use Rattle.gf_scanline.proofs.PixelLemmas.{pixels_last}
use Rattle.gf_scanline.proofs.brush.pattern.Goals as goal

pub loop-k-preserved : goal.loop-k-preserved
loop-k-preserved c = rw (
  c.in_ok-extend_from_slice.ensures.items,
  c.loop-k.invariant,
  pixels_last (λ _. c.args.colour) c.loop-k.k,
) refl
