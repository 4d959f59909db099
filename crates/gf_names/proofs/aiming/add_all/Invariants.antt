use Rattle.std.proofs.Common.{take}
use Rattle.std.specs.Prelude.{◌↔◌, ◌⊎◌, Contains}
use Rattle.gf_ops.specs.declared.op.OpId.{OpId}
use Rattle.gf_names.specs.Aiming.{IsBroughtFrom}
use Rattle.gf_names.proofs.aiming.add_all.Given as goal

abbrev pub invariant-loop-id : goal.invariant-loop-id
invariant-loop-id l = (i : OpId)
    → Contains l.found.items i ↔ (Contains l.initial.found.items i ⊎ IsBroughtFrom l.history.ops
    (take l.id-index l.ids) i)
