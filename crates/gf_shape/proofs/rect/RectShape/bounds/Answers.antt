use Rattle.gf_shape.proofs.BoxLemmas.{rect_bounds}
use Rattle.gf_shape.proofs.rect.RectShape.bounds.Goals as goal

pub returns : goal.returns
returns c = rw (c.far_corner-far.ensures, ← c.self.view_is) (rect_bounds _)
