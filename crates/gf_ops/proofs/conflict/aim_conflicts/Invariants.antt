use Rattle.gf_ops.specs.AimTests.{MemberConflicts}
use Rattle.gf_ops.proofs.AimLemmas.{AllBefore}
use Rattle.gf_ops.proofs.conflict.aim_conflicts.Given as goal

abbrev pub invariant-loop-id : goal.invariant-loop-id
invariant-loop-id l = AllBefore (λ i. ¬ (MemberConflicts l.history.ops i l.b)) l.aim l.id-index
