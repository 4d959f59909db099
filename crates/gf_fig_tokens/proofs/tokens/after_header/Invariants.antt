use Rattle.std.proofs.Common.{◌≡◌, ◌≤◌, length, drop}
use Rattle.gf_fig_tokens.specs.Layout.{plain, lines, plain_lines}
use Rattle.gf_fig_tokens.proofs.tokens.after_header.Given as goal

abbrev pub invariant-loop : goal.invariant-loop
invariant-loop l = (plain (lines l.rest) ≡ drop l.counter (plain_lines l.text))
    × (l.counter ≤ length (plain_lines l.text)) × (length l.rest ≤ length l.text)
