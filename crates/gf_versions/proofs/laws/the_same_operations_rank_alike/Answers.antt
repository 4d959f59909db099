use Rattle.gf_versions.proofs.SameHistoryLemmas.{ranked_alike, ranks_both}
use Rattle.gf_versions.proofs.laws.the_same_operations_rank_alike.Goals as goal

pub returns-clause-one : goal.returns-clause-one
returns-clause-one c = ranked_alike

pub returns-clause-each : goal.returns-clause-each
returns-clause-each c = ranks_both
