-- What the worker of a site has sent, taken and played when it returns (this project's choice).
use Rattle.std.specs.Prelude.{◌≡◌, ◌≢◌, ℕ, Bool, true, false, List, [], ◌∷◌}
use Rattle.std.specs.Prelude.{◌++◌, map, Contains, IsTrue}
use Rattle.gf_ops.specs.declared.op.Op.{Op}
use Rattle.gf_ops.specs.ValidHistory.{IsValid}
use Rattle.gf_link.specs.Ends.{is_ended}
use Rattle.gf_causal.specs.Ready.{NoneIsReady}
use Rattle.gf_site.specs.Course.{IsCourse}
use Rattle.gf_site.specs.SiteState.{SiteState}
use Rattle.gf_json.specs.declared.scripts.Command.{Command}
use Rattle.gf_worker.specs.declared.peer.Peer.{Peer}
use Rattle.gf_worker.specs.declared.worker.WorkerEnd.{WorkerEnd}
use Rattle.gf_worker.specs.Messages.{own, messages_of, last_message}
use Rattle.gf_worker.specs.Peers.{seat_of, with_last}
use Rattle.gf_worker.specs.Coming.{HasCome, IsJust, AreForeign}
use Rattle.gf_worker.specs.Played.{IsPlayed}

-- the peer was sent the site's operations in order, and then End. A site that was short may have
-- sent a prefix of them, and then Stop
pub record HasSent (ops : List Op) (short : Bool) (p : Peer) : Type 0 where
  pub first : List Op
  pub rest : List Op
  pub whole : ops ≡ first ++ rest
  pub stopped : Bool
  pub sent : p.send.sent ≡ messages_of first ++ last_message stopped ∷ []
  pub unless : stopped ≡ true → short ≡ true
  pub all : stopped ≡ false → rest ≡ []

-- the script was played; a site that was short played it up to one of its commands
pub record HasPlayed (script : List Command) (e : WorkerEnd) : Type 0 where
  pub done : List Command
  pub rest : List Command
  pub whole : script ≡ done ++ rest
  pub full : e.short ≡ false → rest ≡ []
  pub played : IsPlayed e.site.number done e.site.ops e.report

-- what site s has done with its script and these peers: all of it, unless memory was refused to it
pub record HasWorked (s : ℕ) (script : List Command) (peers : List Peer)
    (e : WorkerEnd) : Type 0 where
  pub number : e.site.number ≡ s
  pub seats : map seat_of e.seats.items ≡ map seat_of peers
  pub sent : (p : Peer) → Contains e.seats.items p → HasSent (own s e.site.ops) e.short p
  pub ended : (p : Peer) → Contains e.seats.items p → IsTrue (is_ended p.take.taken)
  pub course : IsCourse s e.site.ops
  pub valid : IsValid e.site.ops
  pub played : HasPlayed script e
  pub has : (a : Op) → Contains e.site.ops a → a.id.site ≢ s → HasCome e.seats.items a
  pub idle : e.short ≡ false → NoneIsReady e.site.ops e.site.held
  pub all : e.short ≡ false → (h : List Op) → IsJust h e.site.ops e.seats.items
      → AreForeign s e.seats.items
      → (a : Op) → Contains h a → Contains e.site.ops a

-- for a site that ran nothing, each peer was sent Stop, and the site is as it was
pub record HasStopped (old : SiteState) (peers : List Peer) (e : WorkerEnd) : Type 0 where
  pub site : e.site ≡ old
  pub seats : e.seats.items ≡ map (with_last true) peers
  pub accepted : e.report.accepted.items ≡ []
  pub refused : e.report.refused.items ≡ []
  pub short : e.short ≡ true
