use Rattle.std.proofs.Common.{◌≡◌, ◌++◌, filter, not, take}
use Rattle.gf_visible.proofs.setters.hiding_first.Given as goal

abbrev pub invariant-loop-position : goal.invariant-loop-position
invariant-loop-position g l = l.found.items ≡ filter (g.T.Showing.hides l.setters) l.positions
    ++ filter (λ x. not (g.T.Showing.hides l.setters x)) (take l.position-index l.positions)
