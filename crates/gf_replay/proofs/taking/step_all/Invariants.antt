use Rattle.std.proofs.Common.{length}
use Rattle.gf_site.specs.Growth.{Grows}
use Rattle.gf_replay.specs.Taking.{KeepsAll}
use Rattle.gf_replay.proofs.taking.step_all.Given as goal

abbrev pub invariant-loop-id : goal.invariant-loop-id
invariant-loop-id l = record {
  keeps : KeepsAll l.initial.replica l.replica;
  grows : Grows l.initial.replica.ops l.replica.ops;
}

abbrev pub decreases-loop-id : goal.decreases-loop-id
decreases-loop-id l = length l.replica.held
