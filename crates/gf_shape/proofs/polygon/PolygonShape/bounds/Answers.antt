use Rattle.gf_shape.proofs.ChainBounds.{IsBounds-opened}
use Rattle.gf_shape.proofs.polygon.PolygonShape.bounds.Goals as goal

pub returns : goal.returns
returns c = rw (← c.self.view_is) (IsBounds-opened _ _ c.self.invariant c.bounds.ensures)
