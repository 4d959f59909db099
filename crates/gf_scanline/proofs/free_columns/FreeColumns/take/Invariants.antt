use Rattle.std.proofs.Common.{◌-◌}
use Rattle.gf_scanline.specs.Free.{IsTaken}
use Rattle.gf_scanline.proofs.free_columns.FreeColumns.take.Given as goal

abbrev pub invariant-loop-run : goal.invariant-loop-run
invariant-loop-run l = IsTaken l.columns l.fn.self l.self l.run

abbrev pub decreases-loop-run : goal.decreases-loop-run
decreases-loop-run l = l.columns.to - l.run.to
