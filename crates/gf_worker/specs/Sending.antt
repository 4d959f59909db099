-- What a sending to all peers changes. No public clause cites this module.
use Rattle.std.specs.Prelude.{◌≡◌, ◌<◌, ◌≤◌, ℕ, Bool, true, List, ◌++◌, map}
use Rattle.std.specs.Prelude.{take, drop, length, Contains, IsFalse}
use Rattle.gf_ops.specs.declared.op.Op.{Op}
use Rattle.gf_link.specs.Ends.{is_ended}
use Rattle.gf_link.specs.declared.message.Message.TheVariants as message
use Rattle.gf_worker.specs.declared.peer.Peer.{Peer}
use Rattle.gf_worker.specs.Peers.{with_message}

-- the link to the peer takes one more message
pub record IsOpen (p : Peer) : Type 0 where
  pub still : IsFalse (is_ended p.send.sent)
  pub room : length p.send.sent < 1024

-- the link to each of the peers takes one more message
abbrev pub AreOpen : List Peer → Type 0
AreOpen peers = (p : Peer) → Contains peers p → IsOpen p

-- the first n peers were sent the operation
abbrev pub sent_first : Op → ℕ → List Peer → List Peer
sent_first a n peers = map (with_message (message.Op a)) (take n peers) ++ drop n peers

-- the first peers were sent the operation, and all of them if nothing was refused
pub record SendsToPeers (a : Op) (all : Bool) (old new : List Peer) : Type 0 where
  pub reached : ℕ
  pub within : reached ≤ length old
  pub now : new ≡ sent_first a reached old
  pub whole : all ≡ true → reached ≡ length old
