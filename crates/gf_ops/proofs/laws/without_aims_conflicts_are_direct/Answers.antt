use Rattle.gf_ops.proofs.ConflictLemmas.{version_is_direct}
use Rattle.gf_ops.proofs.laws.without_aims_conflicts_are_direct.Goals as goal

pub returns : goal.returns
returns c = λ h none o g. version_is_direct h none o g
