use Rattle.std.proofs.Common.{◌≡◌, map, take}
use Rattle.std.specs.Prelude.{filter, is_some}
use Rattle.gf_ops.specs.declared.op.Op.{Op}
use Rattle.gf_ops.specs.Attribute.{made_kind}
use Rattle.gf_names.proofs.made.made.Given as goal

abbrev pub invariant-loop-op : goal.invariant-loop-op
invariant-loop-op l = l.ids.items ≡ map (λ (a : Op). a.id)
    (filter (λ (a : Op). is_some (made_kind a.change)) (take l.op-index l.op-items))
