use Rattle.gf_replicas.proofs.EventLemmas.{courses_have_events}
use Rattle.gf_replicas.proofs.laws.courses_of_the_same_operations_have_events.Goals as goal

pub returns : goal.returns
returns c = courses_have_events
