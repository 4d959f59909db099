use Rattle.std.proofs.Common.{rules}
use Rattle.std.proofs.lemmas.Fn.{always_returns_same}
use Rattle.gf_ops.specs.OperationOrder.{id_cmp}
use Rattle.gf_status.proofs.KeptLemmas.{found_at, missing_at}
use Rattle.gf_status.proofs.kept.place.Goals as goal

pub returns-clause-found : goal.returns-clause-found
returns-clause-found c = found_at c.args.statuses.now c.args.object c.binary_search_by.result
    c.binary_search_by.ensures.bound
    (c.binary_search_by.ensures.position (λ s. id_cmp s.object.0 c.args.object.0)
    (always_returns_same _ _ _ (λ a r f h. search rules)))

pub returns-clause-missing : goal.returns-clause-missing
returns-clause-missing c = missing_at c.args.statuses.now c.args.object c.binary_search_by.result
    c.binary_search_by.ensures.bound
    (c.binary_search_by.ensures.position (λ s. id_cmp s.object.0 c.args.object.0)
    (always_returns_same _ _ _ (λ a r f h. search rules)))
