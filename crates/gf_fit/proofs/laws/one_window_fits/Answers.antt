use Rattle.gf_fit.proofs.FittingLemmas.{one_window}
use Rattle.gf_fit.proofs.laws.one_window_fits.Goals as goal

pub returns : goal.returns
returns c = λ holds frame v w f g. one_window holds frame v w f g
