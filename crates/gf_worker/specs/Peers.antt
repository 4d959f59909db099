-- The other sites of a session as one of them sees them: two links for each, with their seats (this
-- project's choice).
use Rattle.std.specs.Prelude.{◌≡◌, ℕ, Bool, List, [], ◌∷◌, ◌++◌, Contains, Some}
use Rattle.std.specs.Prelude.{slice_get}
use Rattle.std.specs.List.{list_all}
use Rattle.atomic_table.specs.Seated.{TableId}
use Rattle.gf_link.specs.declared.message.Message.{Message}
use Rattle.gf_link.specs.Ends.{is_ended}
use Rattle.gf_worker.specs.declared.peer.Peer.{Peer}
use Rattle.gf_worker.specs.Messages.{last_message}

-- the links of the peer stand at its indices in the table
pub record StandsInTable (links : List TableId) (p : Peer) : Type 0 where
  pub out : slice_get links p.out ≡ Some p.send.link
  pub into : slice_get links p.into ≡ Some p.take.link

-- the links of each of the peers stand at its indices in the table
abbrev pub ArePlaced : List TableId → List Peer → Type 0
ArePlaced links peers = (p : Peer) → Contains peers p → StandsInTable links p

-- nothing was sent to the peer, and nothing taken from it
pub record IsFresh (p : Peer) : Type 0 where
  pub sent : p.send.sent ≡ []
  pub taken : p.take.taken ≡ []

-- an End or a Stop was taken from every peer
abbrev pub all_ended : List Peer → Bool
all_ended peers = list_all (λ p. is_ended p.take.taken) peers

-- the indices and the links of a peer, which no message changes
pub record Seat : Type 0 where
  pub out : ℕ
  pub to : TableId
  pub into : ℕ
  pub from : TableId

-- the indices and the links of the peer p
abbrev pub seat_of : Peer → Seat
seat_of p = record { out = p.out; to = p.send.link; into = p.into; from = p.take.link }

-- the peer p, once the message m was sent to it
abbrev pub with_message : Message → Peer → Peer
with_message m p = record p { send = record p.send { sent = p.send.sent ++ m ∷ [] } }

-- the peer p, once the last message was sent to it
abbrev pub with_last : Bool → Peer → Peer
with_last short p = with_message (last_message short) p
