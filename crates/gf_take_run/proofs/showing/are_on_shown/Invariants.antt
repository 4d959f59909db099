use Rattle.std.proofs.Common.{take}
use Rattle.std.specs.Prelude.{All}
use Rattle.gf_ops.specs.declared.op.Op.{Op}
use Rattle.gf_take_run.specs.ShownItems.{IsOnOne}
use Rattle.gf_take_run.proofs.showing.are_on_shown.Given as goal

abbrev pub invariant-loop-op : goal.invariant-loop-op
invariant-loop-op l = All (λ (a : Op). IsOnOne l.shown l.fig a.change) (take l.op-index l.ops)
