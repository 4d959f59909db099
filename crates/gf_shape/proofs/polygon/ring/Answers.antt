use Rattle.gf_shape.proofs.RingLemmas.{IsClosed-ring_of, IsRing-ring_of, points-then_first}
use Rattle.gf_shape.proofs.polygon.ring.Goals as goal

pub new-requires : goal.new-requires
new-requires c = rw (
  c.in_ok-push.ensures.items,
  c.in_ok-extend_from_slice.ensures.items,
  c.in_ok-ring.ensures.items,
  points-then_first _ _ c.requires,
) (IsRing-ring_of _ c.requires)

pub returns-clause-closed : goal.returns-clause-closed
returns-clause-closed c = rw (
  c.new.ensures,
  c.in_ok-push.ensures.items,
  c.in_ok-extend_from_slice.ensures.items,
  c.in_ok-ring.ensures.items,
  points-then_first _ _ c.requires,
) (IsClosed-ring_of _ c.requires)
