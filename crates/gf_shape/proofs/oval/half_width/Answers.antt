use Rattle.std.proofs.Common.{◌*◌}
use Rattle.gf_shape.proofs.OvalLemmas.{half_low, half_high}
use Rattle.gf_shape.proofs.oval.half_width.Goals as goal

pub returns-clause-low : goal.returns-clause-low
returns-clause-low c = half_low c.isqrt.result c.part.result (c.args.ry * c.args.ry)
    (c.args.past * c.args.past * (c.args.rx * c.args.rx))
    (c.args.rx * c.args.rx * (c.args.ry * c.args.ry)) c.isqrt.ensures.square_le
    (rw (c.into.ensures, c.into-2.ensures) at c.part.ensures.low)

pub returns-clause-high : goal.returns-clause-high
returns-clause-high c = half_high c.isqrt.result c.part.result (c.args.ry * c.args.ry)
    (c.args.past * c.args.past * (c.args.rx * c.args.rx))
    (c.args.rx * c.args.rx * (c.args.ry * c.args.ry)) c.isqrt.ensures.next_square_gt
    (rw (c.into.ensures, c.into-2.ensures) at c.part.ensures.high)
