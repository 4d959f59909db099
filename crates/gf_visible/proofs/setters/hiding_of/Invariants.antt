use Rattle.std.proofs.Common.{◌≡◌, filter, take}
use Rattle.gf_visible.proofs.setters.hiding_of.Given as goal

abbrev pub invariant-loop-position : goal.invariant-loop-position
invariant-loop-position g l = l.found.items
    ≡ filter (g.T.Showing.hides l.setters) (take l.position-index l.positions)
