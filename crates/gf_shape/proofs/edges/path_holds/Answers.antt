use Rattle.gf_shape.proofs.EvenOddLemmas.{walk_ends, walk_stops}
use Rattle.gf_shape.proofs.edges.path_holds.Goals as goal

pub returns-then-is_on_edge : goal.returns-then-is_on_edge
returns-then-is_on_edge c = walk_stops _ c.args.first c.loop-to.from _ c.loop-to.odd c.args.rest.now
    _ c.loop-to-test.true (rw c.if-is_on_edge.true at c.is_on_edge.ensures) c.loop-to.invariant

pub returns : goal.returns
returns c = walk_ends _ c.args.first c.loop-to.from _ c.args.rest.now _ c.loop-to-test.false
    c.loop-to.invariant
