use Rattle.gf_take.proofs.OwnLemmas.{named_drawing_shown, own_drawing_shown}
use Rattle.gf_take.proofs.laws.a_history_shows_its_own_drawing.Goals as goal

pub returns-clause-own : goal.returns-clause-own
returns-clause-own c = own_drawing_shown

pub returns-clause-named : goal.returns-clause-named
returns-clause-named c = named_drawing_shown
