use Rattle.std.proofs.Common.{◌≡◌, [], take}
use Rattle.std.specs.BTreeSet.{insert_key}
use Rattle.std.specs.List.{fold}
use Rattle.gf_ops.specs.OperationOrder.{id_cmp}
use Rattle.gf_ops.proofs.ids.id_set.Given as goal

abbrev pub invariant-loop-id : goal.invariant-loop-id
invariant-loop-id l = l.set.keys ≡ fold (insert_key id_cmp) [] (take l.id-index l.ids)
