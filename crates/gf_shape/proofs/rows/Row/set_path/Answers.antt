use Rattle.std.proofs.lemmas.Int.{to_z-of_z}
use Rattle.gf_shape.proofs.RowPaths.{closed_parity, full_contacts, path_row}
use Rattle.gf_shape.proofs.rows.Row.set_path.Goals as goal

pub join_into-requires-clause-even : goal.join_into-requires-clause-even
join_into-requires-clause-even c =
    let f = c.ranges.y in
    let crossed = rw c.clear.ensures.crossings
    at (simp to_z-of_z at c.in_ok-meet_along.ensures.crossings) in
    rw crossed (closed_parity c.args.y c.args.first c.args.rest.now c.requires.closed)

pub join_into-requires-clause-full : goal.join_into-requires-clause-full
join_into-requires-clause-full c =
    let f = c.ranges.y in
    let met = rw c.clear.ensures.contacts at (simp to_z-of_z at c.in_ok-meet_along.ensures.contacts)
    in
    rw met (full_contacts c.args.y c.args.first c.args.rest.now)

pub returns : goal.returns
returns c =
    let f = c.ranges.y in
    let crossed = rw c.clear.ensures.crossings
    at (simp to_z-of_z at c.in_ok-meet_along.ensures.crossings) in
    let met = rw c.clear.ensures.contacts at (simp to_z-of_z at c.in_ok-meet_along.ensures.contacts)
    in
    path_row c.args.first c.args.rest.now c.args.y c.join_into.new.spans.items
    (rw (crossed, met) at c.in_ok-join_into.ensures)
