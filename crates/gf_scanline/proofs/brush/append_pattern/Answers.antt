use Rattle.std.proofs.Common.{arith}
use Rattle.gf_scanline.proofs.PixelLemmas.{pattern_more}
use Rattle.gf_scanline.proofs.brush.append_pattern.Goals as goal

pub loop-left-preserved : goal.loop-left-preserved
loop-left-preserved c = λ k p.
    let some = c.min-some.ensures in
    pattern_more k c.loop-left.left c.min-some.result c.args.pattern.now c.loop-left.bytes.items
    c.extend_from_slice.new.self.items _ (omega (arith, some)) (omega (arith, some)) p
    c.in_ok-extend_from_slice.ensures.items (c.loop-left.invariant k p)
