use Rattle.std.proofs.Common.{◌≡◌, ◌+◌, ◌≤◌, length}
use Rattle.std.specs.Prelude.{flat_map, slice_get}
use Rattle.gf_fig_tokens.specs.TokenLines.{plain_behind, repeated_number}
use Rattle.gf_fig_tokens.proofs.numbering.find_token.Given as goal

abbrev pub invariant-loop-next : goal.invariant-loop-next
invariant-loop-next l =
    (slice_get (flat_map repeated_number (plain_behind l.number l.rest)) l.left
    ≡ slice_get (flat_map repeated_number (plain_behind l.before l.text)) l.index)
    × (l.number + length l.rest ≤ l.before + length l.text)

abbrev pub decreases-loop-next : goal.decreases-loop-next
decreases-loop-next l = length l.rest
