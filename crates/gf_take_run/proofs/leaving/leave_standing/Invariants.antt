use Rattle.std.proofs.Common.{take}
use Rattle.std.specs.Prelude.{All}
use Rattle.gf_ops.specs.declared.op.Op.{Op}
use Rattle.gf_take_run.specs.LeavingSteps.{IsMeant}
use Rattle.gf_take_run.proofs.leaving.leave_standing.Given as goal

abbrev pub invariant-loop-op : goal.invariant-loop-op
invariant-loop-op l =
    All (λ (a : Op). IsMeant l.drawn.drawing l.drawn.names.items l.shown l.own a.change)
    (take l.op-index l.ops)
