use Rattle.std.proofs.Common.{◌≡◌, ◌++◌, length}
use Rattle.gf_fig_tokens.specs.Layout.{words}
use Rattle.gf_fig_named.specs.Spelling.{spelt_ids}
use Rattle.gf_fig_named.proofs.spelling.push_ids.Given as goal

abbrev pub invariant-loop-word : goal.invariant-loop-word
invariant-loop-word l = l.ids.items ++ spelt_ids l.rest ≡ l.initial.ids.items ++ spelt_ids l.text

abbrev pub decreases-loop-word : goal.decreases-loop-word
decreases-loop-word l = length (words l.rest)
