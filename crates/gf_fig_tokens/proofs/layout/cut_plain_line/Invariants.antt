use Rattle.std.proofs.Common.{◌≡◌, ◌≤◌, length}
use Rattle.gf_fig_tokens.specs.Layout.{plain, lines}
use Rattle.gf_fig_tokens.proofs.layout.cut_plain_line.Given as goal

abbrev pub invariant-loop-line : goal.invariant-loop-line
invariant-loop-line l = (plain (lines l.rest) ≡ plain (lines l.text))
    × (length l.rest ≤ length l.text)

abbrev pub decreases-loop-line : goal.decreases-loop-line
decreases-loop-line l = length l.rest
