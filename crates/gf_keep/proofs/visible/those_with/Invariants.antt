use Rattle.std.proofs.Common.{◌≡◌, ◌++◌}
use Rattle.std.specs.Prelude.{filter}
use Rattle.std.specs.Vec.Iter.{into_iter_items}
use Rattle.gf_keep.specs.KeepSteps.{has_all}
use Rattle.gf_keep.proofs.visible.those_with.Given as goal

abbrev pub invariant-loop-group : goal.invariant-loop-group
invariant-loop-group l = l.kept.items ++ filter (has_all l.ids)
    (into_iter_items l.group-iterator) ≡ filter (has_all l.ids) l.fn.groups.items
