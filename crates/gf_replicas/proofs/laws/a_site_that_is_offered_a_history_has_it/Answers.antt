use Rattle.gf_replicas.proofs.SettledLemmas.{offered_settled, offered_not_dropped}
use Rattle.gf_replicas.proofs.laws.a_site_that_is_offered_a_history_has_it.Goals as goal

pub returns-clause-same : goal.returns-clause-same
returns-clause-same c = λ n h offers x valid fed all quiet. offered_settled valid fed all quiet

pub returns-clause-none_dropped : goal.returns-clause-none_dropped
returns-clause-none_dropped c = λ n h offers x valid fed i f y. offered_not_dropped valid fed i f y
