use Rattle.std.proofs.Common.{length}
use Rattle.gf_edit.specs.EntrySteps.{HasReadLines}
use Rattle.gf_edit.proofs.reading.read_lines.Given as goal

abbrev pub invariant-loop-number : goal.invariant-loop-number
invariant-loop-number l = HasReadLines l.fn.editor l.fn.text.items l.lines l.read

abbrev pub decreases-loop-number : goal.decreases-loop-number
decreases-loop-number l = length l.lines
