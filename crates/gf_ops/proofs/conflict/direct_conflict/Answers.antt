use Rattle.std.proofs.Common.{rules}
use Rattle.gf_ops.proofs.DirectConflictLemmas.{direct_told, direct_from}
use Rattle.gf_ops.proofs.conflict.direct_conflict.Goals as goal

pub returns-then-eq : goal.returns-then-eq
returns-then-eq c = (
  λ t. direct_told c.args.a.now c.args.b.now (search rules) (search rules) (search rules),
  λ conflict. let t = direct_from c.args.a.now c.args.b.now conflict in search rules,
)
