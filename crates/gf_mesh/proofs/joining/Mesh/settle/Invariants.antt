use Rattle.std.proofs.Common.{◌≡◌, [], length}
use Rattle.gf_mesh.specs.Linked.{rows_of}
use Rattle.gf_mesh.proofs.SettlingLemmas.{AreLeft}
use Rattle.gf_mesh.proofs.joining.Mesh.settle.Given as goal

-- the links behind those of the sites that are left are settled
abbrev pub invariant-loop-row : goal.invariant-loop-row
invariant-loop-row g l = AreLeft l.fn.self (rows_of l.fn.peers.items) (length l.peers.items) 0
    l.links.items (rows_of l.peers.items) []

abbrev pub decreases-loop-row : goal.decreases-loop-row
decreases-loop-row g l = length l.peers.items

-- and so are those between the last site and the peers that it has no more
abbrev pub invariant-loop-mine : goal.invariant-loop-mine
invariant-loop-mine g l = AreLeft l.fn.self (rows_of l.fn.peers.items) (length l.peers.items)
    (length l.row.items) l.links.items (rows_of l.peers.items) l.row.items
    × (length l.peers.items ≡ length l.initial.peers.items)

abbrev pub decreases-loop-mine : goal.decreases-loop-mine
decreases-loop-mine g l = length l.row.items
