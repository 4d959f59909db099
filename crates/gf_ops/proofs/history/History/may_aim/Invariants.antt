use Rattle.gf_ops.specs.Aims.{MayAimAt}
use Rattle.gf_ops.proofs.AimLemmas.{AllBefore}
use Rattle.gf_ops.proofs.history.History.may_aim.Given as goal

abbrev pub invariant-loop-id : goal.invariant-loop-id
invariant-loop-id l = AllBefore (MayAimAt l.self.ops l.op) l.id-items l.id-index
