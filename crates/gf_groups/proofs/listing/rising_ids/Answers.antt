use Rattle.std.proofs.Common.{◌≡◌, ◌∙◌}
use Rattle.std.specs.List.Sorted.{IsPermutation}
use Rattle.gf_groups.specs.GroupedPositions.{ids_at}
use Rattle.gf_groups.proofs.IdPositionLemmas.{sorted_ids}
use Rattle.gf_groups.proofs.listing.rising_ids.Goals as goal

pub returns : goal.returns
returns c =
    let made : c.in_ok-ids.ids.items ≡ ids_at c.args.history.now.ops c.args.positions.now =
    rw c.ops.ensures.ops at c.in_ok-ids.ensures in
    let moved : IsPermutation (ids_at c.args.history.now.ops c.args.positions.now)
    c.sort.new.self.items = rw made at c.in_ok-sort.ensures.permutation in
    c.new.ensures ∙ sorted_ids c.args.history.now.ops c.ops.ensures.valid c.args.positions.now
    c.sort.new.self.items c.requires moved c.in_ok-sort.ensures.sorted
