use Rattle.std.proofs.Common.{arith}
use Rattle.gf_take.proofs.ReachLemmas.{whole_base}
use Rattle.gf_take.proofs.bases.is_whole_base.Goals as goal

pub returns : goal.returns
returns c = λ yes.
    whole_base c.args.site c.args.known.now c.args.history.now.ops c.recall_valid.ensures
    c.recall_accepted.ensures (λ t is other.
    let last = is.1 in
    let end = c.loop-of-test.false in
    c.loop-of.invariant t is.0 (omega arith) other)
