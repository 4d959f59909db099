use Rattle.std.proofs.Common.{◌≡◌, ◌+◌, length}
use Rattle.gf_fig_read.proofs.lines.count.Given as goal

abbrev pub invariant-loop-count : goal.invariant-loop-count
invariant-loop-count l = l.count + length l.left ≡ length l.fn.tokens

abbrev pub decreases-loop-count : goal.decreases-loop-count
decreases-loop-count l = length l.left
