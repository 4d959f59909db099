use Rattle.std.proofs.Common.{◌≡◌, drop}
use Rattle.gf_streams.proofs.text_lines.TextLines.advance_by.Given as goal

abbrev pub invariant-loop : goal.invariant-loop
invariant-loop l = l.self ≡ drop l.counter l.fn.self
