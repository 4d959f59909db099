-- The workers of a session, once all have returned and each link told that all that was sent was
-- taken (this project's choice).
use Rattle.std.specs.Prelude.{◌≡◌, ◌≢◌, List, Contains}
use Rattle.gf_ops.specs.declared.op.Op.{Op}
use Rattle.gf_ops.specs.ValidHistory.{IsValid}
use Rattle.gf_causal.specs.DeliveredPart.{HaveSame}
use Rattle.gf_site.specs.Course.{IsCourse}
use Rattle.gf_worker.specs.declared.peer.Peer.{Peer}
use Rattle.gf_worker.specs.declared.worker.WorkerEnd.{WorkerEnd}
use Rattle.gf_worker.specs.Messages.{own, ops_of}
use Rattle.gf_worker.specs.Coming.{HasCome, IsJust, AreForeign}

-- what came from the peer is all that the site of the end f made
abbrev pub IsFrom : Peer → WorkerEnd → Type 0
IsFrom p f = ops_of p.take.taken ≡ own f.site.number f.site.ops

-- the peer of one end through which all came that the site of another made
pub record Heard (e f : WorkerEnd) : Type 0 where
  pub peer : Peer
  pub contained : Contains e.seats.items peer
  pub all : IsFrom peer f

-- the other end from whose site all came through a peer of the end e
pub record Sender (ends : List WorkerEnd) (e : WorkerEnd) (p : Peer) : Type 0 where
  pub end : WorkerEnd
  pub contained : Contains ends end
  pub other : end.site.number ≢ e.site.number
  pub all : IsFrom p end

-- an end of a worker that was not short
pub record IsComplete (e : WorkerEnd) : Type 0 where
  pub course : IsCourse e.site.number e.site.ops
  pub valid : IsValid e.site.ops
  pub has : (a : Op) → Contains e.site.ops a → a.id.site ≢ e.site.number
      → HasCome e.seats.items a
  pub all : (h : List Op) → IsJust h e.site.ops e.seats.items
      → AreForeign e.site.number e.seats.items → (a : Op) → Contains h a
      → Contains e.site.ops a

-- each worker is complete and has its own number. Each took from every other just what that one
-- made
pub record AreJoined (ends : List WorkerEnd) : Type 0 where
  pub complete : (e : WorkerEnd) → Contains ends e → IsComplete e
  pub one : (e f : WorkerEnd) → Contains ends e → Contains ends f
      → e.site.number ≡ f.site.number → e ≡ f
  pub heard : (e f : WorkerEnd) → Contains ends e → Contains ends f
      → e.site.number ≢ f.site.number → Heard e f
  pub senders : (e : WorkerEnd) → Contains ends e → (p : Peer) → Contains e.seats.items p
      → Sender ends e p

-- the history is valid, and each list has just its operations
pub record HaveOne (ends : List WorkerEnd) : Type 0 where
  pub history : List Op
  pub valid : IsValid history
  pub same : (e : WorkerEnd) → Contains ends e → HaveSame e.site.ops history
