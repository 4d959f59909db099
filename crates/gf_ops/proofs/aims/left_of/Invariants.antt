use Rattle.std.proofs.Common.{◌≡◌, fold, take}
use Rattle.gf_ops.specs.AimTests.{after_id}
use Rattle.gf_ops.proofs.aims.left_of.Given as goal

abbrev pub invariant-loop-other : goal.invariant-loop-other
invariant-loop-other l = l.left ≡ fold after_id l.fn.ids (take l.other-index l.others)
