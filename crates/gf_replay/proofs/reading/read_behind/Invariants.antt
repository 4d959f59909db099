use Rattle.std.proofs.Common.{◌≡◌, ◌+◌, [], List, length}
use Rattle.gf_ops.specs.declared.op.Op.{Op}
use Rattle.gf_replay.specs.Behind.{HasDelivered}
use Rattle.gf_site.specs.Growth.{Grows}
use Rattle.gf_replay.specs.Blocks.{AreOfLines, IsBefore}
use Rattle.gf_replay.proofs.reading.read_behind.Given as goal

abbrev pub invariant-loop-alloc : goal.invariant-loop-alloc
invariant-loop-alloc g l = record {
  before : (known : List Op) → HasDelivered known l.fn.replica
      → IsBefore known l.fn.text.items l.block.readings.items l.block.behind l.replica;
  lines : AreOfLines l.block.readings.items;
  grows : Grows l.fn.replica.ops l.replica.ops;
  none : length l.block.readings.items ≡ 0 → l.block.behind ≡ [];
}

abbrev pub decreases-loop-alloc : goal.decreases-loop-alloc
decreases-loop-alloc g l = length l.block.behind + length l.block.readings.items
