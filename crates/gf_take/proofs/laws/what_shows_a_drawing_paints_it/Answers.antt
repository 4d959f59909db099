use Rattle.gf_take.proofs.FrontLemmas.{shown_paints}
use Rattle.gf_take.proofs.laws.what_shows_a_drawing_paints_it.Goals as goal

pub returns : goal.returns
returns c = λ h d lawful s. shown_paints h d lawful s
