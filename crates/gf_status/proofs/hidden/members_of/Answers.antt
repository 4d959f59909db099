use Rattle.std.proofs.Common.{[], ap, ◌∙◌}
use Rattle.std.specs.BTreeSet.{insert_key}
use Rattle.std.specs.List.{fold}
use Rattle.gf_ops.specs.OperationOrder.{id_cmp}
use Rattle.gf_status.proofs.HiddenLemmas.{set_told}
use Rattle.gf_status.proofs.hidden.members_of.Goals as goal

pub returns : goal.returns
returns c = set_told _ c.in_ok-seen.seen (c.in_ok-seen.ensures
    ∙ ap (fold (insert_key id_cmp) []) (c.deref.ensures.value ∙ c.in_ok-ids.ensures))
