use Rattle.gf_versions.proofs.TopLemmas.{first_gives}
use Rattle.gf_versions.proofs.laws.the_first_that_holds_is_on_top.Goals as goal

pub returns : goal.returns
returns c = λ h items ranked p. first_gives h p items ranked
