use Rattle.gf_causal.proofs.PartLemmas.{part_accepts}
use Rattle.gf_causal.proofs.laws.what_is_ready_in_a_valid_history_is_accepted.Goals as goal

pub returns : goal.returns
returns c = λ h part valid within in_turn a there ready. part_accepts h part valid within in_turn a
    there ready
