use Rattle.std.proofs.Common.{List, ℕ}
use Rattle.gf_ops.specs.declared.op.Op.{Op}
use Rattle.std.specs.Vec.Iter.{into_iter_items}
use Rattle.gf_site.specs.Growth.{Grows}
use Rattle.gf_replay.specs.Blocks.{AreOfLines, IsBefore}
use Rattle.gf_replay.proofs.reading.take_block.Given as goal

-- what is left of the block comes behind what was taken
abbrev pub invariant-loop-reading : goal.invariant-loop-reading
invariant-loop-reading l = record {
  block : AreOfLines (into_iter_items l.reading-iterator);
  before : (known : List Op) (text : List ℕ) (others : List (ℕ × List ℕ))
      → IsBefore known text l.fn.readings.items others l.fn.replica
      → IsBefore known text (into_iter_items l.reading-iterator) others l.replica;
  grows : Grows l.fn.replica.ops l.replica.ops;
}
