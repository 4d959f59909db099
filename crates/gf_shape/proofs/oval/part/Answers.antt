use Rattle.std.proofs.Common.{arith, refl, ◌*◌, ◌<◌}
use Rattle.std.proofs.Math.Nat.{mul-le-mul}
use Rattle.gf_shape.specs.Laws.Sides.{one_le_product}
use Rattle.gf_shape.proofs.OvalLemmas.{part_low, part_high}
use Rattle.gf_shape.proofs.oval.part.Goals as goal

pub returns-clause-low : goal.returns-clause-low
returns-clause-low c =
    rw (
      c.square.ensures.value,
      c.square-2.ensures.value,
      c.square-3.ensures.value,
      c.square-4.ensures.value,
    )
    (part_low (c.args.rx * c.args.rx) (c.args.ry * c.args.ry) (c.args.past * c.args.past) _
    (mul-le-mul c.requires.past c.requires.past) refl)

pub returns-clause-high : goal.returns-clause-high
returns-clause-high c =
    let some : 0 < c.args.ry = omega arith in
    rw (
      c.square.ensures.value,
      c.square-2.ensures.value,
      c.square-3.ensures.value,
      c.square-4.ensures.value,
    )
    (part_high (c.args.rx * c.args.rx) (c.args.ry * c.args.ry) (c.args.past * c.args.past) _
    (one_le_product c.args.ry c.args.ry some some) (mul-le-mul c.requires.past c.requires.past)
    refl)
