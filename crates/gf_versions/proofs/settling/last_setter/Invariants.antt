use Rattle.std.proofs.Common.{take}
use Rattle.gf_versions.specs.Settling.{IsLastOf}
use Rattle.gf_versions.proofs.settling.last_setter.Given as goal

abbrev pub invariant-loop-id : goal.invariant-loop-id
invariant-loop-id l = IsLastOf l.history.ops l.group.ops (take l.id-index l.id-items) l.attribute
    l.last
