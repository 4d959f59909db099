use Rattle.std.proofs.Common.{take}
use Rattle.std.specs.Prelude.{◌↔◌, Contains}
use Rattle.gf_ops.specs.declared.op.OpId.{OpId}
use Rattle.gf_ops.specs.HasOperation.{HasOn}
use Rattle.gf_keep.proofs.aiming.ids_on.Given as goal

abbrev pub invariant-loop-op : goal.invariant-loop-op
invariant-loop-op l = (i : OpId) → Contains l.ids.items i ↔ HasOn (take l.op-index l.op-items)
    l.object i
