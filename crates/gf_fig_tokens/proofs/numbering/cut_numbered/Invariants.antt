use Rattle.std.proofs.Common.{◌≡◌, ◌+◌, ◌≤◌, length}
use Rattle.gf_fig_tokens.specs.TokenLines.{plain_behind}
use Rattle.gf_fig_tokens.proofs.numbering.cut_numbered.Given as goal

abbrev pub invariant-loop-line : goal.invariant-loop-line
invariant-loop-line l = (plain_behind l.number l.rest ≡ plain_behind l.before l.text)
    × (l.number + length l.rest ≤ l.before + length l.text) × (length l.rest ≤ length l.text)

abbrev pub decreases-loop-line : goal.decreases-loop-line
decreases-loop-line l = length l.rest
