use Rattle.gf_versions.proofs.SettlingLemmas.{settled_once}
use Rattle.gf_versions.proofs.laws.a_version_settles_each_attribute_once.Goals as goal

pub returns : goal.returns
returns c = λ h valid o g version t v w x y. settled_once h valid o g version t v w x y
