use Rattle.std.proofs.Common.{◌≡◌, length}
use Rattle.std.specs.List.{find}
use Rattle.gf_fig_tokens.specs.Layout.{lines}
use Rattle.gf_fig_named.specs.Known.{begins_known}
use Rattle.gf_fig_named.proofs.known.knows_line.Given as goal

abbrev pub invariant-loop-line : goal.invariant-loop-line
invariant-loop-line l = find begins_known (lines l.rest) ≡ find begins_known (lines l.fig)

abbrev pub decreases-loop-line : goal.decreases-loop-line
decreases-loop-line l = length l.rest
