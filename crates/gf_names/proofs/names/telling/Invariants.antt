use Rattle.std.proofs.Common.{◌<◌}
use Rattle.std.specs.Prelude.{◌↔◌, Contains}
use Rattle.gf_ops.specs.declared.op.OpId.{OpId}
use Rattle.gf_ops.specs.Version.{IsMember}
use Rattle.gf_names.specs.Telling.{IsTelling}
use Rattle.gf_names.proofs.names.telling.Given as goal

abbrev pub invariant-loop-site : goal.invariant-loop-site
invariant-loop-site l = (i : OpId)
    → Contains l.found.items i
    ↔ ((i.site < l.site) × IsTelling l.history.ops l.members (IsMember l.history.ops l.others) i)
