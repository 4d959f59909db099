use Rattle.gf_maximal.proofs.ClassLemmas.{largest_spread}
use Rattle.gf_maximal.proofs.laws.the_sets_of_classes_are_the_sets_of_their_members.Goals as goal

pub returns : goal.returns
returns c = λ e us s classes gs table. largest_spread e us s classes gs table
