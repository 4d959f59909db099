use Rattle.std.proofs.Common.{length}
use Rattle.bench_lines.proofs.counted.Given as goal

abbrev pub decreases-loop-line : goal.decreases-loop-line
decreases-loop-line g l = length l.lines
