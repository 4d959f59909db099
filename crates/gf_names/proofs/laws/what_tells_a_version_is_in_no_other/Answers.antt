use Rattle.gf_names.proofs.OneVersionLemmas.{told_version}
use Rattle.gf_names.proofs.laws.what_tells_a_version_is_in_no_other.Goals as goal

pub returns : goal.returns
returns c = λ h valid o g k first second others within ids tells has. told_version h valid o g k
    first second others ids within tells has
