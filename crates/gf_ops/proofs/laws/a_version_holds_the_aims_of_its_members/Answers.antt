use Rattle.gf_ops.proofs.ConflictLemmas.{version_holds_aims}
use Rattle.gf_ops.proofs.laws.a_version_holds_the_aims_of_its_members.Goals as goal

pub returns : goal.returns
returns c = λ h valid o g v a m i k. version_holds_aims h valid o g v a m i k
