use Rattle.std.proofs.Common.{take}
use Rattle.std.specs.Prelude.{Contains}
use Rattle.gf_ops.specs.declared.op.Op.{Op}
use Rattle.gf_take_run.specs.KnownHistory.{IsNewer}
use Rattle.gf_take_run.proofs.knowing.check_age.Given as goal

-- none of the operations so far is newer than the drawing
abbrev pub invariant-loop-op : goal.invariant-loop-op
invariant-loop-op l = (a x : Op) → Contains (take l.op-index l.history.ops) a
    → ¬ (IsNewer l.site l.knew l.history.ops a x)
