use Rattle.gf_shape.proofs.BoxLemmas.{is_area-moved}
use Rattle.gf_shape.proofs.rect.RectShape.moved.Goals as goal

pub invariant_of-result : goal.invariant_of-result
invariant_of-result c = rw (c.moved.ensures)
    (is_area-moved _ c.args.d c.self.invariant (rw (← c.self.view_is) at c.requires))
