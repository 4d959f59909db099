-- Sites of which any two are joined by two links, one each way (this project's choice).
use Rattle.std.specs.Prelude.{◌≡◌, ℕ, zero, suc, ◌+◌, ◌*◌, ◌<◌, ◌≤◌, List, map, length}
use Rattle.std.specs.Prelude.{IsTrue, Some, slice_get, Contains}
use Rattle.std.specs.Global.{Vec}
use Rattle.atomic_table.specs.Seated.{TableId}
use Rattle.gf_link.specs.Ends.{is_ended}
use Rattle.gf_worker.specs.declared.peer.Peer.{Peer}
use Rattle.gf_worker.specs.Peers.{Seat, seat_of}

-- the peers of each site
abbrev pub rows_of : List (Vec Peer) → List (List Peer)
rows_of rows = map (λ v. v.items) rows

-- P holds of each peer of each site
abbrev pub EachPeer : (Peer → Type 0) → List (List Peer) → Type 0
EachPeer P rows = (xs : List Peer) → Contains rows xs → (p : Peer) → Contains xs p → P p

-- how many links n sites have
abbrev pub links_of : ℕ → ℕ
links_of zero = 0
links_of (suc n) = links_of n + 2 * n

-- s is the seat of the site i for the site j. The links of a site with all earlier ones stand
-- together, in the order of these. For each of them, first comes the link to the later site
pub record IsSeat (i j : ℕ) (s : Seat) : Type 0 where
  pub later : i < j → (s.out ≡ links_of j + 2 * i) × (s.into ≡ s.out + 1)
  pub earlier : j < i → (s.into ≡ links_of i + 2 * j) × (s.out ≡ s.into + 1)

-- s is the seat of the site i for its peer k: the peers are all other sites, in their order
pub record IsSeatAt (links : List TableId) (i k : ℕ) (s : Seat) : Type 0 where
  pub earlier : k < i → IsSeat i k s
  pub later : i ≤ k → IsSeat i (suc k) s
  pub to : slice_get links s.out ≡ Some s.to
  pub from : slice_get links s.into ≡ Some s.from

-- each site has every other one as a peer, and the table has no further links
pub record AreLinked (links : List TableId) (rows : List (List Peer)) : Type 0 where
  pub count : length links ≡ links_of (length rows)
  pub long : (i : ℕ) (xs : List Peer) → slice_get rows i ≡ Some xs
      → length xs + 1 ≡ length rows
  pub each : (i k : ℕ) (xs : List Peer) (p : Peer) → slice_get rows i ≡ Some xs
      → slice_get xs k ≡ Some p → IsSeatAt links i k (seat_of p)

-- an End or a Stop was taken from each peer
abbrev pub HaveEnded : List (List Peer) → Type 0
HaveEnded rows = EachPeer (λ p. IsTrue (is_ended p.take.taken)) rows
