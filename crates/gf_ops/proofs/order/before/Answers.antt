use Rattle.std.proofs.lemmas.Bool.{leb-true, le-leb}
use Rattle.gf_ops.proofs.order.before.Goals as goal

pub returns : goal.returns
returns c = rw c.from.ensures (λ told. leb-true _ _ told, λ known. le-leb _ _ known)
