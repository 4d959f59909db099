use Rattle.std.proofs.Common.{◌≡◌, ◌++◌, take}
use Rattle.gf_scanline.specs.Telling.{contacts_at, crossings_at}
use Rattle.gf_scanline.proofs.edge_row.meet_all.Given as goal

abbrev pub invariant-loop-edge : goal.invariant-loop-edge
invariant-loop-edge l = (l.meetings.crossings.items ≡ l.initial.meetings.crossings.items
    ++ crossings_at l.y (take l.edge-index l.edges))
    × (l.meetings.contacts.items ≡ l.initial.meetings.contacts.items ++ contacts_at l.y
    (take l.edge-index l.edges))
