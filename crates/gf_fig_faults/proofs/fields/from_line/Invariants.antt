use Rattle.std.proofs.Common.{◌≡◌, drop}
use Rattle.gf_fig_tokens.specs.Layout.{lines}
use Rattle.gf_fig_faults.proofs.fields.from_line.Given as goal

abbrev pub invariant-loop : goal.invariant-loop
invariant-loop l = lines l.left ≡ drop l.counter (lines l.text)
