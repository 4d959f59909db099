use Rattle.std.proofs.Common.{◌≡◌, take}
use Rattle.gf_table.proofs.indexed.IndexedHistory.of.Given as goal

abbrev pub invariant-loop-op : goal.invariant-loop-op
invariant-loop-op l = l.indexed ≡ take l.op-index l.op-items
