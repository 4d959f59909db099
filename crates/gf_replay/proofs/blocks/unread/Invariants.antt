use Rattle.std.proofs.Common.{◌≡◌, ◌+◌, ◌-◌, vec_len}
use Rattle.gf_replay.proofs.blocks.unread.Given as goal

abbrev pub invariant-loop : goal.invariant-loop
invariant-loop l = vec_len l.readings + (l.count - l.counter) ≡ l.count
