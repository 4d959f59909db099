use Rattle.std.proofs.Common.{drop}
use Rattle.gf_maximal.specs.Rows.{conflict}
use Rattle.gf_visible.specs.ClassSays.{covers}
use Rattle.gf_visible.specs.Seen.{AreMet}
use Rattle.gf_visible.proofs.growing.grown.Given as goal

abbrev pub invariant-loop-class : goal.invariant-loop-class
invariant-loop-class l = AreMet (covers l.timeline.says) (conflict l.timeline.rows) l.hiders
    l.fn.partial.met l.rest l.partial.met (drop l.class-index l.rest) l.partial.sets
