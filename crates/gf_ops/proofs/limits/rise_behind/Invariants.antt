use Rattle.std.proofs.Common.{◌≡◌, ◌∷◌, drop}
use Rattle.gf_ops.specs.OperationOrder.{id_cmp, rises}
use Rattle.gf_ops.proofs.limits.rise_behind.Given as goal

abbrev pub invariant-loop-next : goal.invariant-loop-next
invariant-loop-next l = rises id_cmp (l.last ∷ drop l.next-index l.ids)
    ≡ rises id_cmp (l.fn.id ∷ l.ids)
