use Rattle.std.proofs.Common.{◌≡◌, ◌++◌}
use Rattle.std.specs.Vec.Iter.{into_iter_items}
use Rattle.gf_import.specs.ImportSteps.{AreWritten}
use Rattle.gf_import.proofs.importing.write_commands.Given as goal

abbrev pub invariant-loop-change : goal.invariant-loop-change
invariant-loop-change l = (l.yielded ++ into_iter_items l.change-iterator ≡ l.fn.changes.items)
    × AreWritten l.fn.site l.yielded l.text.items
