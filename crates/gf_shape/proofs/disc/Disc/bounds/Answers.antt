use Rattle.gf_shape.proofs.DiscLemmas.{IsBounds-round}
use Rattle.gf_shape.proofs.disc.Disc.bounds.Goals as goal

pub returns : goal.returns
returns c = rw (c.low_corner.ensures, c.high_corner.ensures, ← c.self.view_is) (IsBounds-round _)
