use Rattle.std.proofs.Common.{take}
use Rattle.std.specs.Prelude.{◌↔◌, ◌⊎◌, Contains}
use Rattle.gf_ops.specs.declared.op.OpId.{OpId}
use Rattle.gf_names.specs.LastConflict.{TellsFrom}
use Rattle.gf_names.proofs.names.add_lasts.Given as goal

abbrev pub invariant-loop-other : goal.invariant-loop-other
invariant-loop-other l = (i : OpId)
    → Contains l.found.items i ↔ (Contains l.initial.found.items i ⊎ TellsFrom l.history.ops l.ids
    (take l.other-index l.others) i)
