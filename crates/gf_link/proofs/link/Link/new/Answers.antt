use Rattle.std.proofs.Common.{rules}
use Rattle.gf_link.proofs.RuleLemmas.{begins, forks}
use Rattle.gf_link.proofs.link.Link.new.Goals as goal

pub ruled-requires-clause-rule : goal.ruled-requires-clause-rule
ruled-requires-clause-rule g c = begins

pub another-taker-requires-clause-rule : goal.another-taker-requires-clause-rule
another-taker-requires-clause-rule g c = forks _ _ (search rules) (search rules)
