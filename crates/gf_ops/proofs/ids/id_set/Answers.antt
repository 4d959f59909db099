use Rattle.std.proofs.Common.{[], ap, get_or, sym, ◌∙◌}
use Rattle.std.specs.BTreeSet.{insert_key}
use Rattle.std.proofs.lemmas.List.Sums.{fold_more}
use Rattle.gf_ops.specs.declared.op.OpId.{OpId}
use Rattle.gf_ops.specs.OperationOrder.{id_cmp}
use Rattle.gf_ops.proofs.ids.id_set.Goals as goal

abbrev no_id : OpId
no_id = record { site = 0; seq = 0 }

pub loop-id-preserved : goal.loop-id-preserved
loop-id-preserved c =
    let ids = c.args.ids.now in
    let n = c.loop-id.id-index in
    c.in_ok-insert.ensures.keys
    ∙ (ap (λ ks. insert_key id_cmp ks (get_or ids n no_id)) c.loop-id.invariant
    ∙ sym (fold_more (insert_key id_cmp) [] ids n no_id c.loop-id-test.true))
