use Rattle.std.proofs.Common.{◌≡◌, ◌+◌, ◌≤◌, length, drop}
use Rattle.gf_fig_tokens.specs.TokenLines.{plain_behind, numbered_plain_lines}
use Rattle.gf_fig_tokens.proofs.numbering.cut_header.Given as goal

abbrev pub invariant-loop : goal.invariant-loop
invariant-loop l = (plain_behind l.number l.rest ≡ drop l.counter (numbered_plain_lines l.text))
    × (l.number + length l.rest ≤ length l.text)
