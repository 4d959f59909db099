use Rattle.gf_classes.proofs.RangeLemmas.{cut_range}
use Rattle.gf_classes.proofs.ranges.cut_range_of.Goals as goal

pub returns : goal.returns
returns c = cut_range c.args.setters.now c.args.x.now c.args.site c.args.cut.now
    c.range_of.result c.trimmed_front-front.result c.trimmed_back.result c.range_of.ensures
    c.trimmed_front-front.ensures c.trimmed_back.ensures
