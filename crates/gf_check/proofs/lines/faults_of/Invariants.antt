use Rattle.std.proofs.Common.{length}
use Rattle.gf_check.specs.CheckedLines.{HasChecked}
use Rattle.gf_check.proofs.lines.faults_of.Given as goal

abbrev pub invariant-loop-number : goal.invariant-loop-number
invariant-loop-number l = HasChecked l.fn.editor l.fn.text.items l.lines l.check.replica
    l.check.telling

abbrev pub decreases-loop-number : goal.decreases-loop-number
decreases-loop-number l = length l.lines
