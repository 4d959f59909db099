use Rattle.std.proofs.Common.{◌≡◌, ◌++◌}
use Rattle.gf_plane.specs.declared.colour.Rgb.{Rgb}
use Rattle.gf_scanline.specs.Pixels.{pixels}
use Rattle.gf_scanline.proofs.brush.append_pattern.Given as goal

abbrev pub invariant-loop-left : goal.invariant-loop-left
invariant-loop-left l = (c : Rgb) → l.pattern ≡ pixels (λ _. c) 0 64
    → l.bytes.items ++ pixels (λ _. c) 0 l.left ≡ l.initial.bytes.items ++ pixels (λ _. c) 0 l.count

abbrev pub decreases-loop-left : goal.decreases-loop-left
decreases-loop-left l = l.left
