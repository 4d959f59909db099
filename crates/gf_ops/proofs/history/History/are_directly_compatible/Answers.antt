use Rattle.std.proofs.Common.{arith, refl}
use Rattle.gf_ops.proofs.SiteWalkLemmas.{all_calm}
use Rattle.gf_ops.proofs.history.History.are_directly_compatible.Goals as goal

pub returns : goal.returns
returns c =
    let end = c.loop-site-test.false in (
      λ t. all_calm c.args.self.now.ops c.recall_valid.ensures c.args.ids.now
          (λ s b l. c.loop-site.invariant s b (omega (arith, end, l))),
      λ p. refl,
    )
