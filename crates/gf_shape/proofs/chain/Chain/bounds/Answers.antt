use Rattle.gf_shape.proofs.ChainBounds.{IsBounds-ring}
use Rattle.gf_shape.proofs.chain.Chain.bounds.Goals as goal

pub returns : goal.returns
returns c = rw (← c.self.view_is) (IsBounds-ring _ _ _ _ c.self.invariant c.index.ensures
    c.deref.ensures.value c.bounds_from.ensures)
