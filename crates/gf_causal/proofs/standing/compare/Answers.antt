use Rattle.std.proofs.Common.{refl}
use Rattle.gf_causal.proofs.standing.compare.Goals as goal

pub returns-else-same_op : goal.returns-else-same_op
returns-else-same_op c = rw c.in-Some.is (
  c.in-Some.other.now,
  refl,
  λ e. let t = c.same_op.ensures.1 e in let f = c.if-same_op.false in absurd cc,
)
