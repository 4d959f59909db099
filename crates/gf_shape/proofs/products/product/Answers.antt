use Rattle.std.proofs.lemmas.Int.{to_z-of_z, unsigned_abs-mul}
use Rattle.std.proofs.Math.Nat.{mul-le-mul}
use Rattle.gf_shape.proofs.ProductLemmas.{wide, product_fits}
use Rattle.gf_shape.proofs.products.product.Goals as goal

pub overflow_mul-result : goal.overflow_mul-result
overflow_mul-result c =
    let a = wide c.args.a c.requires.a in
    let b = wide c.args.b c.requires.b in
    let fits = product_fits c.args.a c.args.b c.requires.a c.requires.b in
    let a64 = c.ranges.a in
    let b64 = c.ranges.b in
    simp to_z-of_z fits

pub returns-clause-value : goal.returns-clause-value
returns-clause-value c =
    let a = wide c.args.a c.requires.a in
    let b = wide c.args.b c.requires.b in
    let fits = product_fits c.args.a c.args.b c.requires.a c.requires.b in
    let a64 = c.ranges.a in
    let b64 = c.ranges.b in
    simp to_z-of_z

pub returns-clause-small : goal.returns-clause-small
returns-clause-small c =
    let a = wide c.args.a c.requires.a in
    let b = wide c.args.b c.requires.b in
    let fits = product_fits c.args.a c.args.b c.requires.a c.requires.b in
    let a64 = c.ranges.a in
    let b64 = c.ranges.b in
    simp to_z-of_z (rw (unsigned_abs-mul c.args.a c.args.b) (mul-le-mul c.requires.a c.requires.b))
