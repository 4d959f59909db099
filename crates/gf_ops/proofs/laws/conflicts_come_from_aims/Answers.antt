use Rattle.gf_ops.proofs.ConflictLemmas.{conflict_carried, conflict_parted, conflict_brought}
use Rattle.gf_ops.proofs.laws.conflicts_come_from_aims.Goals as goal

pub returns-clause-carried : goal.returns-clause-carried
returns-clause-carried c = λ h valid a x b i m conflict. conflict_carried h valid a x b i m conflict

pub returns-clause-parted : goal.returns-clause-parted
returns-clause-parted c = λ h a b conflict. conflict_parted h a b conflict

pub returns-clause-direct : goal.returns-clause-direct
returns-clause-direct c = λ h a b conflicts. conflict_brought h a b conflicts
