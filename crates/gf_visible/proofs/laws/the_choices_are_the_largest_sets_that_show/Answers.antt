use Rattle.gf_visible.proofs.ShowingLemmas.{showing_all}
use Rattle.gf_visible.proofs.laws.the_choices_are_the_largest_sets_that_show.Goals as goal

pub returns : goal.returns
returns c = showing_all
