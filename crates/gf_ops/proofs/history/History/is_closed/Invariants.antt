use Rattle.std.specs.Prelude.{Contains, ◌<◌}
use Rattle.gf_ops.specs.declared.op.Op.{Op}
use Rattle.gf_ops.specs.OperationOrder.{Precedes}
use Rattle.gf_ops.specs.ValidHistory.{IsWithin}
use Rattle.gf_ops.proofs.history.History.is_closed.Given as goal

abbrev pub invariant-loop-site : goal.invariant-loop-site
invariant-loop-site l = (b : Op) → Contains l.self.ops b → Precedes b l.op → b.id.site < l.site
    → IsWithin b.past l.op.past
