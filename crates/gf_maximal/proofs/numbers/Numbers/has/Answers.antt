use Rattle.std.proofs.Common.{◌∙◌}
use Rattle.gf_maximal.proofs.PutLemmas.{has_is}
use Rattle.gf_maximal.proofs.numbers.Numbers.has.Goals as goal

pub returns : goal.returns
returns c = c.touches.ensures ∙ has_is c.args.number c.args.self.now
