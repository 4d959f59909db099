use Rattle.std.proofs.Common.{arith, sym}
use Rattle.std.specs.Prelude.{Contains}
use Rattle.test_history.proofs.version_commands.first_version.Goals as goal

pub settle-requires : goal.settle-requires
settle-requires c =
    let group = c.index-groups-0.result in
    let contained : Contains c.as_slice-groups.result.now
    group = (0, omega arith, sym c.index-groups-0.is) in
    ((c.in_ok-groups.ensures.groups.exactly group).0 (rw c.as_slice-groups.ensures at contained)).1
