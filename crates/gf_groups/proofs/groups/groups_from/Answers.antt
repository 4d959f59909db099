use Rattle.std.proofs.Common.{◌≡◌, map}
use Rattle.std.specs.List.Sorted.{IsPermutation}
use Rattle.gf_groups.specs.Growing.{conflict_at}
use Rattle.gf_groups.specs.GroupedPositions.{group_at}
use Rattle.gf_table.specs.Positions.{positions_on}
use Rattle.gf_groups.proofs.GroupLemmas.{versions_sorted}
use Rattle.gf_groups.proofs.OnPositionLemmas.{all_positions}
use Rattle.gf_groups.proofs.PositionLemmas.{positions_on-rising}
use Rattle.gf_groups.proofs.LargestGroupLemmas.{largest_rise}
use Rattle.gf_groups.proofs.groups.groups_from.Goals as goal

pub add_groups-requires : goal.add_groups-requires
add_groups-requires c =
    let h = c.args.history.now.ops in
    largest_rise (conflict_at h) (positions_on h c.args.object) c.args.sets.items
    c.requires.table

pub returns : goal.returns
returns c =
    let h = c.args.history.now.ops in
    let us = positions_on h c.args.object in
    let sets = c.args.sets.items in
    let made : c.add_groups.new.groups.items ≡ map (group_at h c.args.object)
    sets = rw c.new-groups.ensures.items at c.in_ok-add_groups.ensures in
    let moved : IsPermutation (map (group_at h c.args.object) sets) c.sort_groups.new.groups.items =
    rw made at c.in_ok-sort_groups.ensures.moved in
    rw c.new.ensures (versions_sorted h c.recall_valid.ensures c.args.object us
    (all_positions h c.args.object) (positions_on-rising h c.args.object) sets
    c.requires.table c.requires.made c.sort_groups.new.groups.items moved
    c.in_ok-sort_groups.ensures.sorted)
