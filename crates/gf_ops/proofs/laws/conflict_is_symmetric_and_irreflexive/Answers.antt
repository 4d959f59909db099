use Rattle.gf_ops.proofs.ConflictLemmas.{conflict-sym, conflict_irreflexive, own_aim_calm}
use Rattle.gf_ops.proofs.laws.conflict_is_symmetric_and_irreflexive.Goals as goal

pub returns-clause-symmetric : goal.returns-clause-symmetric
returns-clause-symmetric c = λ h a b conflict. conflict-sym h a b conflict

pub returns-clause-irreflexive : goal.returns-clause-irreflexive
returns-clause-irreflexive c = λ h valid a i conflict.
    absurd (conflict_irreflexive h valid a i conflict)

pub returns-clause-own_aim : goal.returns-clause-own_aim
returns-clause-own_aim c = λ h valid a x i m conflict.
    absurd (own_aim_calm h valid a x i m conflict)
