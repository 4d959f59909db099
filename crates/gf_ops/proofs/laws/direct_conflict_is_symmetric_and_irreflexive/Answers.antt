use Rattle.std.proofs.Common.{refl}
use Rattle.gf_ops.proofs.DirectConflictLemmas.{direct-sym}
use Rattle.gf_ops.proofs.laws.direct_conflict_is_symmetric_and_irreflexive.Goals as goal

pub returns-clause-symmetric : goal.returns-clause-symmetric
returns-clause-symmetric c = λ a b conflict. direct-sym a b conflict

pub returns-clause-irreflexive : goal.returns-clause-irreflexive
returns-clause-irreflexive c = λ a conflict. absurd (conflict.concurrent.different refl)
