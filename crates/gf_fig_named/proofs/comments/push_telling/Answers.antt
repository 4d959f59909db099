use Rattle.gf_fig_named.proofs.TextLemmas.{ids_pushed}
use Rattle.gf_fig_named.proofs.comments.push_telling.Goals as goal

pub loop-index-preserved : goal.loop-index-preserved
loop-index-preserved c =
    ids_pushed c.args.ids.now c.loop-index.index _ c.loop-index-test.true c.args.out.now.items
    c.loop-index.out.items c.push_nth.new.out.items c.in_ok-push_nth.ensures c.loop-index.invariant
