use Rattle.std.proofs.Common.{take}
use Rattle.std.specs.Prelude.{Contains}
use Rattle.std.proofs.Common.{ℕ}
use Rattle.gf_take_run.specs.LeavingSteps.{IsFigureAt}
use Rattle.gf_take_run.proofs.leaving.has_figure.Given as goal

abbrev pub invariant-loop-index : goal.invariant-loop-index
invariant-loop-index l = (k : ℕ) → Contains (take l.index-index l.index-items) k
    → ¬ (IsFigureAt l.drawn.drawing l.drawn.names.items l.item l.name k)
