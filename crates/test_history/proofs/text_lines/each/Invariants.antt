use Rattle.std.proofs.Common.{length}
use Rattle.test_history.proofs.text_lines.each.Given as goal

abbrev pub decreases-loop-number : goal.decreases-loop-number
decreases-loop-number l = length l.lines
