use Rattle.gf_scanline.proofs.ReachLemmas.{within_reach}
use Rattle.gf_scanline.proofs.edges.Edges.reach.Goals as goal

pub returns : goal.returns
returns c = λ holds x y tells held. within_reach c.reach.result c.self.inside.edges.items
    (rw c.deref.ensures.value at c.reach.ensures) holds x y (rw (← c.self.view_is) at tells) held
