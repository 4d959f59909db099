use Rattle.std.proofs.Common.{◌≡◌, length}
use Rattle.gf_fig_tokens.specs.Layout.{lines}
use Rattle.gf_fig_named.specs.FigureNames.{behind_lines}
use Rattle.gf_fig_named.proofs.figures.behind_lines.Given as goal

abbrev pub invariant-loop-line : goal.invariant-loop-line
invariant-loop-line l = behind_lines l.left (lines l.rest) ≡ behind_lines l.count (lines l.text)

abbrev pub decreases-loop-line : goal.decreases-loop-line
decreases-loop-line l = length l.rest
