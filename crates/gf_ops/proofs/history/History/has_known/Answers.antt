use Rattle.std.proofs.Common.{rules}
use Rattle.gf_ops.proofs.history.History.has_known.Goals as goal

pub returns : goal.returns
returns c = search rules
