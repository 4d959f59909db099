use Rattle.std.proofs.Common.{◌≡◌, ◌+◌, length}
use Rattle.gf_fig_tokens.specs.Layout.{words}
use Rattle.gf_fig_tokens.proofs.numbering.count_words.Given as goal

abbrev pub invariant-loop-after : goal.invariant-loop-after
invariant-loop-after l = l.count + length (words l.rest) ≡ length (words l.line)

abbrev pub decreases-loop-after : goal.decreases-loop-after
decreases-loop-after l = length (words l.rest)
