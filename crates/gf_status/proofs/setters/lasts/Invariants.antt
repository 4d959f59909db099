use Rattle.std.proofs.Common.{map, take}
use Rattle.gf_status.specs.Setters.{AreLastOf}
use Rattle.gf_status.proofs.setters.lasts.Given as goal

abbrev pub invariant-loop-op : goal.invariant-loop-op
invariant-loop-op l = AreLastOf (map (λ a. a.now) (take l.op-index l.ops))
    (map (λ a. a.now) l.lasts.items)
