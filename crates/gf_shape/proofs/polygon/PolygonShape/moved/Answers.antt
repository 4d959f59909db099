use Rattle.gf_shape.proofs.RingLemmas.{IsClosed-moved}
use Rattle.gf_shape.proofs.polygon.PolygonShape.moved.Goals as goal

pub invariant_of-result : goal.invariant_of-result
invariant_of-result c = rw c.in_ok-ring.ensures
    (IsClosed-moved _ c.args.d c.self.invariant (rw (← c.self.view_is) at c.requires))
