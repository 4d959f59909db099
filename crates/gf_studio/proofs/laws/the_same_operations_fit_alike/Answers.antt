use Rattle.gf_studio.proofs.FittedLaws.{fit_alike, fit_alike-picture}
use Rattle.gf_studio.proofs.laws.the_same_operations_fit_alike.Goals as goal

pub returns-clause-window : goal.returns-clause-window
returns-clause-window c = λ bytes others have frame v w x y.
    fit_alike bytes others have frame v w x y

pub returns-clause-picture : goal.returns-clause-picture
returns-clause-picture c = λ bytes others have frame v w x y text other p q.
    fit_alike-picture bytes others have frame v w x y text other p q
