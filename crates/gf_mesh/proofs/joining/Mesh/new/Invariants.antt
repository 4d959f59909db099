use Rattle.std.proofs.Common.{◌≡◌, [], vec_len}
use Rattle.gf_mesh.specs.Linked.{rows_of}
use Rattle.gf_mesh.proofs.MeetingLemmas.{AreMeeting}
use Rattle.gf_mesh.proofs.joining.Mesh.new.Given as goal

-- the sites so far have met
abbrev pub invariant-loop : goal.invariant-loop
invariant-loop g l = AreMeeting l.counter 0 l.links.items (rows_of l.peers.items) []
    × (vec_len l.peers ≡ l.counter)

-- the new site has met the first of them
abbrev pub invariant-loop-other : goal.invariant-loop-other
invariant-loop-other g l = AreMeeting l.counter l.other-index l.links.items (rows_of l.other-items)
    l.row.items
