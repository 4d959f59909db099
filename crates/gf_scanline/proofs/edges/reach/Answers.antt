use Rattle.gf_scanline.proofs.ReachLemmas.{across_more}
use Rattle.gf_scanline.proofs.edges.reach.Goals as goal

pub loop-edge-preserved : goal.loop-edge-preserved
loop-edge-preserved c = across_more c.loop-edge.all c.across-all.result c.args.edges.now
    c.loop-edge.edge-index _ c.loop-edge-test.true c.across-all.ensures.wider
    c.across-all.ensures.edge c.loop-edge.invariant
