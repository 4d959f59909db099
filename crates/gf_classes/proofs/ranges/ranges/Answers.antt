use Rattle.gf_classes.proofs.RangeLemmas.{one_range}
use Rattle.gf_classes.proofs.ranges.ranges.Goals as goal

pub loop-site-preserved : goal.loop-site-preserved
loop-site-preserved c = one_range c.args.setters.now c.args.x.now c.loop-site.site c.args.cut.now
    c.loop-site.runs.items c.push.new.self.items c.cut_range_of.result c.in_ok-push.ensures.items
    c.loop-site.invariant c.cut_range_of.ensures
