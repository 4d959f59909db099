use Rattle.std.proofs.Common.{◌≡◌, ◌≤◌, ◌+◌, ◌-◌, length, drop}
use Rattle.gf_streams.specs.TextLines.{numbered_from}
use Rattle.gf_streams.proofs.text_lines.next_line.Given as goal

-- what is left of the text holds all its lines that are not blank
abbrev pub invariant-loop-from : goal.invariant-loop-from
invariant-loop-from l = record {
  lines : numbered_from l.fn.number l.fn.text ≡ numbered_from l.number l.from;
  behind : l.from ≡ drop (length l.fn.text - length l.from) l.fn.text;
  within : l.number + length l.from ≤ l.fn.number + length l.fn.text;
}

abbrev pub decreases-loop-from : goal.decreases-loop-from
decreases-loop-from l = length l.from
