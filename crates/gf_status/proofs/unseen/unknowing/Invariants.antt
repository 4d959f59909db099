use Rattle.std.proofs.Common.{map, take}
use Rattle.gf_ops.specs.declared.op.ObjectId.{ObjectId}
use Rattle.gf_status.specs.Setters.{AreSettersOn, AreThose, IsUnknowing}
use Rattle.gf_status.proofs.unseen.unknowing.Given as goal

abbrev pub invariant-loop-op : goal.invariant-loop-op
invariant-loop-op l = (o : ObjectId) → AreSettersOn l.history.ops o (map (λ a. a.now) l.setters)
    → AreThose (IsUnknowing l.history.ops o l.seen) (map (λ a. a.now) (take l.op-index l.all))
    (map (λ a. a.now) l.found.items)
