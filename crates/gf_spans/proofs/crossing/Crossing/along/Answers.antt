use Rattle.std.proofs.Common.{refl, rules, FitsSigned, w32, w64}
use Rattle.std.proofs.lemmas.Int.{to_z-of_z}
use Rattle.gf_spans.specs.Crossings.{place}
use Rattle.gf_spans.proofs.crossing.Crossing.along.Goals as goal

pub returns : goal.returns
unfolding place
returns c =
    let f0 = c.ranges.x in
    let f1 = c.ranges.run in
    let f2 = c.ranges.rise in
    let f3 = c.ranges.height in
    let f4 : FitsSigned w64 c.product-across.result = search rules in
    let f5 : FitsSigned w64 c.quotient-whole.result = search rules in
    let f6 : FitsSigned w32 c.sum.result = search rules in
    let s = simp to_z-of_z at c.sum.ensures in
    let x = simp to_z-of_z at c.is_exact.ensures in
    let q = simp to_z-of_z at c.quotient-whole.ensures.value in
    let a = simp to_z-of_z at c.product-across.ensures in
    simp to_z-of_z (rw (s, x, q, a) refl)
