use Rattle.std.proofs.Common.{◌≡◌, length}
use Rattle.gf_fig_tokens.specs.Layout.{lines}
use Rattle.gf_fig_named.specs.NamesAbove.{name_above, told_above}
use Rattle.gf_fig_named.proofs.above.name_above.Given as goal

abbrev pub invariant-loop-line : goal.invariant-loop-line
invariant-loop-line l = told_above l.spot l.ids.items (lines l.rest) ≡ name_above (lines l.text)

abbrev pub decreases-loop-line : goal.decreases-loop-line
decreases-loop-line l = length l.rest
