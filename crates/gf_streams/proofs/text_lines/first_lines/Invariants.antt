use Rattle.std.proofs.Common.{◌≡◌, ◌<◌, ◌≤◌, ◌+◌, ◌-◌, ◌++◌, ◌^◌, length, take, map, vec_len}
use Rattle.gf_streams.specs.TextLines.{numbered_from}
use Rattle.gf_streams.proofs.text_lines.first_lines.Given as goal

-- the lines so far, with the first of what is left, are the first of all
abbrev pub invariant-loop-left : goal.invariant-loop-left
invariant-loop-left l = record {
  lines : map (λ line. (line.0, line.1.now)) l.block.items
      ++ take (l.most - vec_len l.block) (numbered_from l.number l.left)
      ≡ take l.most (numbered_from l.fn.number l.fn.text);
  within : vec_len l.block ≤ l.most;
  few : l.number + length l.left < 2 ^ 64;
}

abbrev pub decreases-loop-left : goal.decreases-loop-left
decreases-loop-left l = l.most - vec_len l.block
