use Rattle.std.proofs.Common.{◌≡◌}
use Rattle.std.specs.Prelude.{max}
use Rattle.gf_ops.specs.OperationOrder.{entry}
use Rattle.gf_take.specs.Reaching.{reach_at}
use Rattle.gf_take.proofs.ReachLemmas.{eight}
use Rattle.gf_take.proofs.bases.raised.Goals as goal

pub returns : goal.returns
returns c =
    eight (λ t n. n ≡ max (reach_at t c.args.op.now) (entry c.args.clock.now t))
    c.raised_at.result c.raised_at-2.result c.raised_at-3.result c.raised_at-4.result
    c.raised_at-5.result c.raised_at-6.result c.raised_at-7.result c.raised_at-8.result
    c.raised_at.ensures c.raised_at-2.ensures c.raised_at-3.ensures c.raised_at-4.ensures
    c.raised_at-5.ensures c.raised_at-6.ensures c.raised_at-7.ensures c.raised_at-8.ensures
