use Rattle.gf_studio.proofs.FittedLaws.{text_fits, text_fits-picture}
use Rattle.gf_studio.proofs.laws.a_text_fits_as_its_history_does.Goals as goal

pub returns-clause-window : goal.returns-clause-window
returns-clause-window c = λ bytes fig x frame v w y z.
    text_fits bytes fig x frame v w y z

pub returns-clause-picture : goal.returns-clause-picture
returns-clause-picture c = λ bytes fig x frame v w y z text other p q.
    text_fits-picture bytes fig x frame v w y z text other p q
