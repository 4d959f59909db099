use Rattle.std.proofs.Common.{◌≡◌, ◌++◌, map}
use Rattle.std.specs.Prelude.{All}
use Rattle.std.specs.Vec.Iter.{into_iter_items}
use Rattle.gf_groups.specs.GroupedPositions.{group_at}
use Rattle.gf_maximal.specs.LargestSets.{IsRising}
use Rattle.gf_groups.proofs.listing.add_groups.Given as goal

abbrev pub invariant-loop-set : goal.invariant-loop-set
invariant-loop-set l = record {
  rest : l.groups.items ++ map (group_at l.history.ops l.object)
      (into_iter_items l.set-iterator) ≡ l.initial.groups.items ++ map
      (group_at l.history.ops l.object) l.fn.sets.items;
  rising : All IsRising (into_iter_items l.set-iterator);
}
