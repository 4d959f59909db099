use Rattle.std.proofs.Common.{◌≡◌, take}
use Rattle.gf_ops.proofs.copying.copy_ops.Given as goal

abbrev pub invariant-loop-op : goal.invariant-loop-op
invariant-loop-op l = l.copies.items ≡ take l.op-index l.ops
