use Rattle.std.proofs.Common.{arith, ◌≤◌, ◌*◌}
use Rattle.std.proofs.Math.Nat.{mul-le-mul}
use Rattle.gf_shape.proofs.disc.square.Goals as goal

pub overflow_mul-result : goal.overflow_mul-result
overflow_mul-result c = let x : c.args.n * c.args.n ≤ 10000000 * 10000000 = mul-le-mul c.requires
    c.requires in omega arith
