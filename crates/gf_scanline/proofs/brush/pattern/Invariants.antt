use Rattle.std.proofs.Common.{◌≡◌}
use Rattle.gf_scanline.specs.Pixels.{pixels}
use Rattle.gf_scanline.proofs.brush.pattern.Given as goal

abbrev pub invariant-loop-k : goal.invariant-loop-k
invariant-loop-k l = l.bytes.items ≡ pixels (λ _. l.colour) 0 l.k
