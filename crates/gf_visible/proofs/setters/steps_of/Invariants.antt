use Rattle.std.proofs.Common.{◌≡◌, map, take}
use Rattle.gf_visible.specs.Choices.{step_of}
use Rattle.gf_visible.proofs.setters.steps_of.Given as goal

abbrev pub invariant-loop-position : goal.invariant-loop-position
invariant-loop-position g l = l.steps.items ≡ map
    (step_of (g.T.Showing.hides l.setters) (g.T.Showing.covers l.setters)
    (g.T.Showing.rivals l.setters) l.positions) (take l.position-index l.position-items)
