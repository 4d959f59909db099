use Rattle.std.proofs.Common.{refl}
use Rattle.gf_ops.proofs.history.History.clock.Goals as goal

pub returns : goal.returns
returns c = rw (
  c.count.ensures,
  c.count-2.ensures,
  c.count-3.ensures,
  c.count-4.ensures,
  c.count-5.ensures,
  c.count-6.ensures,
  c.count-7.ensures,
  c.count-8.ensures,
) refl
