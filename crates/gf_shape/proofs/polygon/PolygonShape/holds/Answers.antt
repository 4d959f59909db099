use Rattle.std.proofs.Common.{◌∙◌}
use Rattle.gf_shape.proofs.RingLemmas.{chain_holds-closed}
use Rattle.gf_shape.proofs.polygon.PolygonShape.holds.Goals as goal

pub returns : goal.returns
returns c = rw (← c.self.view_is) (c.holds.ensures ∙ chain_holds-closed _ c.self.invariant c.args.p)
