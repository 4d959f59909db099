use Rattle.gf_changes.proofs.PlacedLemmas.{ranked_group}
use Rattle.gf_changes.proofs.settled.settled_place.Goals as goal

pub settle-requires : goal.settle-requires
settle-requires c = ranked_group c.args.history.now.ops c.args.versions.now c.requires
    c.args.index c.in-Some.item.now c.in-Some.ensures.lookup.3.0 c.in-Some.ensures.lookup.1
    c.in_ok-copy.field-0 c.in_ok-copy.ensures
