use Rattle.std.proofs.lemmas.Int.{to_z-of_z}
use Rattle.gf_scanline.proofs.EdgeLemmas.{none_empty}
use Rattle.gf_scanline.proofs.edge_row.EdgeRow.set.Goals as goal

pub join_into-requires-clause-full : goal.join_into-requires-clause-full
join_into-requires-clause-full c =
    let f = c.ranges.y in
    let met = rw c.clear.ensures.contacts at (simp to_z-of_z at c.in_ok-meet_all.ensures.contacts)
    in
    rw met (none_empty c.args.y c.args.edges.now)
