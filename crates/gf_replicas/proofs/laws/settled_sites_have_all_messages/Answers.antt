use Rattle.gf_replicas.proofs.SettledLemmas.{world_settled}
use Rattle.gf_replicas.proofs.laws.settled_sites_have_all_messages.Goals as goal

pub returns : goal.returns
returns c = λ n events offers w run s x at settled. world_settled run s x at settled
