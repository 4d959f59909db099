use Rattle.gf_maximal.proofs.ListingLemmas.{grown_more, grown_each}
use Rattle.gf_maximal.proofs.listing.grow_by.Goals as goal

pub meet-requires-clause-sets : goal.meet-requires-clause-sets
meet-requires-clause-sets c = grown_each c.args.rows.now c.args.met.now c.args.sets.now.items
    c.requires.grown

pub returns-clause-grown : goal.returns-clause-grown
returns-clause-grown c = grown_more c.args.rows.now c.requires.known c.args.met.now
    c.join.new.self c.args.number c.args.sets.now.items c.meet.new.sets.items c.requires.number
    c.requires.fresh c.requires.grown c.in_ok-join.ensures.ok c.in_ok-meet.ensures
