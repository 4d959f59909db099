use Rattle.gf_status.proofs.LastLemmas.{now}
use Rattle.gf_status.proofs.SetterLemmas.{givers_told}
use Rattle.gf_status.proofs.differing.givers.Goals as goal

pub returns : goal.returns
returns c =
    let ids = rw c.deref.ensures.value at c.in_ok-ids.ensures in
    givers_told now c.args.history.now.ops c.args.attribute c.args.groups.now
    c.in_ok-found.found.items c.in_ok-found.ensures c.in_ok-ids.ids ids
