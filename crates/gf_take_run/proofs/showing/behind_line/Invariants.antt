use Rattle.std.proofs.Common.{length}
use Rattle.std.specs.Prelude.{Contains}
use Rattle.gf_fig_tokens.specs.Layout.{lines}
use Rattle.gf_take_run.proofs.showing.behind_line.Given as goal

abbrev pub invariant-loop-line : goal.invariant-loop-line
invariant-loop-line l = (line : _) → Contains (lines l.rest) line → Contains (lines l.fig) line

abbrev pub decreases-loop-line : goal.decreases-loop-line
decreases-loop-line l = length l.rest
