use Rattle.gf_take.proofs.PartLemmas.{base_valid, part_valid}
use Rattle.gf_take.proofs.laws.what_a_base_knows_is_a_history.Goals as goal

pub returns-clause-part : goal.returns-clause-part
returns-clause-part c = part_valid

pub returns-clause-base : goal.returns-clause-base
returns-clause-base c = base_valid
