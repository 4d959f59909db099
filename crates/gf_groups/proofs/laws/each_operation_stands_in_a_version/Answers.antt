use Rattle.gf_groups.proofs.StandingLemmas.{stands_in_all, stands_in_one}
use Rattle.gf_groups.proofs.laws.each_operation_stands_in_a_version.Goals as goal

pub returns-clause-one : goal.returns-clause-one
returns-clause-one c = λ h valid a there. stands_in_one h valid a there

pub returns-clause-every : goal.returns-clause-every
returns-clause-every c = λ h valid a there none g v. stands_in_all h valid a there none g v
