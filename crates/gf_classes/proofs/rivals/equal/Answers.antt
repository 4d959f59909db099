use Rattle.std.proofs.Common.{◌≡◌, true, ◌∙◌}
use Rattle.std.specs.Prelude.{Some, slice_get}
use Rattle.gf_classes.specs.Rivals.{have_one_value}
use Rattle.gf_classes.proofs.EqualLemmas.{gathers_more, gathers_all}
use Rattle.gf_classes.proofs.rivals.equal.Goals as goal

pub loop-rank-preserved : goal.loop-rank-preserved
loop-rank-preserved c = gathers_more (λ n. have_one_value c.args.ops.now
    (slice_get c.args.setters.now n) (Some c.args.x.now) ≡ true)
    c.loop-rank.some c.add_equal.new.some c.deref-rank-items.result.now
    c.loop-rank.rank-index c.loop-rank-test.true c.loop-rank.invariant c.in_ok-add_equal.ensures

pub returns : goal.returns
returns c = gathers_all (λ n. have_one_value c.args.ops.now
    (slice_get c.args.setters.now n) (Some c.args.x.now) ≡ true)
    c.loop-rank.some c.deref-rank-items.result.now c.args.ranks.now c.loop-rank.rank-index
    c.loop-rank-test.false (c.deref-rank-items.ensures.value ∙ c.in_ok-all.ensures.value)
    c.loop-rank.invariant
