use Rattle.gf_shape.proofs.BoxLemmas.{IsRing-corners_again}
use Rattle.gf_shape.proofs.rect.RectShape.outline.Goals as goal

pub new-requires : goal.new-requires
new-requires c = rw (c.in_ok-points.ensures.items, c.corners_again.ensures.corners)
    (IsRing-corners_again _ c.corners_again.ensures.area)
