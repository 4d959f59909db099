use Rattle.std.proofs.Common.{◌≡◌, ◌++◌}
use Rattle.std.specs.Prelude.{filter}
use Rattle.std.specs.Vec.Iter.{into_iter_items}
use Rattle.gf_maximal.specs.Rows.{conflict}
use Rattle.gf_visible.specs.ClassSays.{covers}
use Rattle.gf_visible.specs.Seen.{seen}
use Rattle.gf_visible.proofs.growing.keep_seen.Given as goal

abbrev pub invariant-loop-set : goal.invariant-loop-set
invariant-loop-set l = l.kept.items
    ++ filter (seen (covers l.timeline.says) (conflict l.timeline.rows) l.hiders)
    (into_iter_items l.set-iterator)
    ≡ filter (seen (covers l.timeline.says) (conflict l.timeline.rows) l.hiders) l.fn.sets.items
