use Rattle.gf_versions.proofs.KeyLemmas.{above_one_way, above_transitive}
use Rattle.gf_versions.proofs.TopLemmas.{are_ordered}
use Rattle.gf_versions.proofs.laws.versions_are_in_a_total_order.Goals as goal

pub returns-clause-irreflexive : goal.returns-clause-irreflexive
returns-clause-irreflexive c = λ k h. above_one_way k k h h

pub returns-clause-transitive : goal.returns-clause-transitive
returns-clause-transitive c = λ k l m h i. above_transitive k l m h i

pub returns-clause-total : goal.returns-clause-total
returns-clause-total c = λ h valid v w x y. are_ordered h v w valid x y
