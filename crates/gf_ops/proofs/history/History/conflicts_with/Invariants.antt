use Rattle.gf_ops.specs.AimTests.{ConflictsAt}
use Rattle.gf_ops.proofs.AimLemmas.{AllBefore}
use Rattle.gf_ops.proofs.history.History.conflicts_with.Given as goal

abbrev pub invariant-loop-id : goal.invariant-loop-id
invariant-loop-id l = AllBefore (λ i. ¬ (ConflictsAt l.self.ops l.op i)) l.ids l.id-index
