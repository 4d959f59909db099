use Rattle.gf_ops.proofs.HistoryLemmas.{site_in_range, seq_in_range}
use Rattle.gf_ops.proofs.ValidityLemmas.{precedes_irreflexive, precedes_transitive}
use Rattle.gf_ops.proofs.laws.before_is_a_strict_order.Goals as goal

pub returns-clause-irreflexive : goal.returns-clause-irreflexive
returns-clause-irreflexive c = λ h valid a x. precedes_irreflexive h valid a x

pub returns-clause-transitive : goal.returns-clause-transitive
returns-clause-transitive c = λ h valid a b d x y z before after.
    let known = valid.in_range b y in
    precedes_transitive h valid a b d y z (site_in_range a (valid.in_range a x))
    (site_in_range b known) (seq_in_range b known).0 before after
