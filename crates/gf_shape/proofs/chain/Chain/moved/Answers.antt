use Rattle.gf_shape.proofs.RingLemmas.{IsRing-moved}
use Rattle.gf_shape.proofs.chain.Chain.moved.Goals as goal

pub new-requires : goal.new-requires
new-requires c = rw (c.in_ok-points.ensures, c.deref.ensures.value)
    (IsRing-moved _ c.args.d c.self.invariant (rw (← c.self.view_is) at c.requires))
