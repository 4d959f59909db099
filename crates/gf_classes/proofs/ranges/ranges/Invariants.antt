use Rattle.gf_classes.specs.Ranges.{AreRanges}
use Rattle.gf_classes.proofs.ranges.ranges.Given as goal

abbrev pub invariant-loop-site : goal.invariant-loop-site
invariant-loop-site l = AreRanges l.setters l.x l.site l.cut l.runs.items
