use Rattle.gf_versions.proofs.TopLemmas.{has_one_colour}
use Rattle.gf_versions.proofs.laws.one_colour_at_a_point.Goals as goal

pub returns : goal.returns
returns c = λ h valid p. has_one_colour h p valid
