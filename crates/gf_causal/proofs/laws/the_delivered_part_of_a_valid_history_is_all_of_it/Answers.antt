use Rattle.gf_causal.proofs.WholeLemmas.{whole_delivered}
use Rattle.gf_causal.proofs.laws.the_delivered_part_of_a_valid_history_is_all_of_it.Goals as goal

pub returns : goal.returns
returns c = λ offered h valid same a. whole_delivered offered h valid same a
