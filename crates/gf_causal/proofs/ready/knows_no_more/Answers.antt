use Rattle.std.proofs.Common.{rules, arith}
use Rattle.gf_causal.proofs.ready.knows_no_more.Goals as goal

pub returns-then-op-from : goal.returns-then-op-from
returns-then-op-from c = (
  λ t. absurd cc,
  λ k.
      let m = k c.loop-site.site (search rules, search rules) (search rules) in
      absurd (grind (arith, m, c.if-op-from.true, c.count.ensures, c.from.ensures)),
)
