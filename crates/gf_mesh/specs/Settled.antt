-- Sites of which each took from every other all that it sent (this project's choice).
use Rattle.std.specs.Prelude.{◌≡◌, ◌≢◌, ℕ, List, Contains, Some, slice_get}
use Rattle.gf_worker.specs.declared.peer.Peer.{Peer}

-- a peer in xs took all that one in ys sent
pub record TookAll (xs ys : List Peer) : Type 0 where
  pub taker : Peer
  pub sender : Peer
  pub took : Contains xs taker
  pub sent : Contains ys sender
  pub all : taker.take.taken ≡ sender.send.sent

-- the peer x of the row i took all that one of another row sent
pub record TookOne (rows : List (List Peer)) (i : ℕ) (x : Peer) : Type 0 where
  pub index : ℕ
  pub row : List Peer
  pub sender : Peer
  pub apart : index ≢ i
  pub at : slice_get rows index ≡ Some row
  pub sent : Contains row sender
  pub all : x.take.taken ≡ sender.send.sent

-- each site took from each other all that it sent, and from nobody else
pub record AreAllTaken (rows : List (List Peer)) : Type 0 where
  pub each : (i j : ℕ) (xs ys : List Peer) → i ≢ j → slice_get rows i ≡ Some xs
      → slice_get rows j ≡ Some ys → TookAll xs ys
  pub only : (i : ℕ) (xs : List Peer) (x : Peer) → slice_get rows i ≡ Some xs
      → Contains xs x → TookOne rows i x
