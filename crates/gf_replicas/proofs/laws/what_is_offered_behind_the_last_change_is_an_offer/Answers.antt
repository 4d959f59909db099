use Rattle.gf_replicas.proofs.OfferedLemmas.{offered_last}
use Rattle.gf_replicas.proofs.laws.what_is_offered_behind_the_last_change_is_an_offer.Goals as goal

pub returns : goal.returns
returns c = λ n events offers w world s m a last at. offered_last world s m a last at
