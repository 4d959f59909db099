use Rattle.gf_kept.proofs.SameOnLemmas.{placed_on, same_beside, version_of_on, version_on}
use Rattle.gf_kept.proofs.laws.the_operations_of_an_object_say_all_of_it.Goals as goal

pub returns-clause-group : goal.returns-clause-group
returns-clause-group c = version_on

pub returns-clause-version : goal.returns-clause-version
returns-clause-version c = version_of_on

pub returns-clause-placed : goal.returns-clause-placed
returns-clause-placed c = placed_on

pub returns-clause-beside : goal.returns-clause-beside
returns-clause-beside c = same_beside
