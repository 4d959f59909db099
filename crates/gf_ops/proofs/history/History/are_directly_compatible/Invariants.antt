use Rattle.std.specs.Prelude.{ℕ, ◌<◌, ◌≤◌}
use Rattle.gf_ops.specs.AimWalk.{ArePartedBelow}
use Rattle.gf_ops.proofs.history.History.are_directly_compatible.Given as goal

abbrev pub invariant-loop-site : goal.invariant-loop-site
invariant-loop-site l = (s : ℕ) → 1 ≤ s → s < l.site → ArePartedBelow l.self.ops l.ids s s
