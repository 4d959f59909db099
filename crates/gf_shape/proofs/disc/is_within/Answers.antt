use Rattle.std.proofs.Common.{arith, refl, rules, w64, FitsSigned}
use mir.Syntax.{w128}
use Rattle.std.proofs.lemmas.Int.{to_z-of_z}
use Rattle.gf_shape.proofs.ProductLemmas.{sum_fits}
use Rattle.gf_shape.proofs.disc.is_within.Goals as goal

pub returns : goal.returns
returns c =
    let f1 : FitsSigned w128 c.product.result = search rules in
    let f2 : FitsSigned w128 c.product-2.result = search rules in
    let f3 : FitsSigned w128 c.product-3.result = search rules in
    let f4 = sum_fits c.product.result c.product-2.result c.product.ensures.small
    c.product-2.ensures.small in
    let f5 : FitsSigned w64 c.from-radius.result = search rules in
    let f6 = c.ranges.x in
    let f7 = c.ranges.y in
    let x = simp to_z-of_z at c.product.ensures.value in
    let y = simp to_z-of_z at c.product-2.ensures.value in
    let far = simp to_z-of_z at c.product-3.ensures.value in
    simp to_z-of_z (rw (x, y, far, c.from-radius.ensures) refl)

pub product-requires-clause-a : goal.product-requires-clause-a
product-requires-clause-a c = let f = c.ranges.x in simp to_z-of_z c.requires.x

pub product-requires-clause-b : goal.product-requires-clause-b
product-requires-clause-b c = let f = c.ranges.x in simp to_z-of_z c.requires.x

pub product-requires-2-clause-a : goal.product-requires-2-clause-a
product-requires-2-clause-a c = let f = c.ranges.y in simp to_z-of_z c.requires.y

pub product-requires-2-clause-b : goal.product-requires-2-clause-b
product-requires-2-clause-b c = let f = c.ranges.y in simp to_z-of_z c.requires.y

pub overflow_add-result : goal.overflow_add-result
overflow_add-result c =
    let f1 : FitsSigned w128 c.product.result = search rules in
    let f2 : FitsSigned w128 c.product-2.result = search rules in
    simp to_z-of_z (sum_fits c.product.result c.product-2.result c.product.ensures.small
    c.product-2.ensures.small)

pub product-requires-3-clause-a : goal.product-requires-3-clause-a
product-requires-3-clause-a c =
    let r = c.ranges.radius in
    let f : FitsSigned w64 c.from-radius.result = search rules in
    simp to_z-of_z (rw c.from-radius.ensures (omega arith))

pub product-requires-3-clause-b : goal.product-requires-3-clause-b
product-requires-3-clause-b c =
    let r = c.ranges.radius in
    let f : FitsSigned w64 c.from-radius.result = search rules in
    simp to_z-of_z (rw c.from-radius.ensures (omega arith))
