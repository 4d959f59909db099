use Rattle.std.proofs.Common.{◌≡◌, length}
use Rattle.gf_fig_tokens.specs.Layout.{tokens_left}
use Rattle.gf_fig_tokens.proofs.tokens.Tokens.next_token.Given as goal

abbrev pub invariant-loop-token : goal.invariant-loop-token
invariant-loop-token l = tokens_left l.self-inside.line.now l.self-inside.rest.now ≡ tokens_left
    l.initial.self-inside.line.now l.initial.self-inside.rest.now

abbrev pub decreases-loop-token : goal.decreases-loop-token
decreases-loop-token l = length l.self-inside.rest.now
