use Rattle.std.proofs.Common.{◌≡◌, take}
use Rattle.gf_shape.specs.ShapeMoves.{points_moved}
use Rattle.gf_shape.proofs.points.all_moved.Given as goal

abbrev pub invariant-loop-p : goal.invariant-loop-p
invariant-loop-p l = l.moved.items ≡ points_moved (take l.p-index l.points) l.d
