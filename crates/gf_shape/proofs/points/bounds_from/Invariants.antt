use Rattle.std.proofs.Common.{◌≡◌, fold, take}
use Rattle.gf_shape.specs.BoundsOf.{bounds_at, with}
use Rattle.gf_shape.proofs.points.bounds_from.Given as goal

abbrev pub invariant-loop-p : goal.invariant-loop-p
invariant-loop-p l = l.bounds ≡ fold with (bounds_at l.fn.first) (take l.p-index l.rest)
