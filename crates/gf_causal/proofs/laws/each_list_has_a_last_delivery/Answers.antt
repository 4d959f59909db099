use Rattle.gf_causal.proofs.FinishLemmas.{last_delivery}
use Rattle.gf_causal.proofs.laws.each_list_has_a_last_delivery.Goals as goal

pub returns : goal.returns
returns c = λ offered. last_delivery offered
