-- What holds of a worker while it runs. No public clause cites this module.
use Rattle.std.specs.Prelude.{◌≡◌, ◌≢◌, ◌⊎◌, ℕ, Bool, true, false, List, []}
use Rattle.std.specs.Prelude.{◌++◌, map, Contains, Some, IsTrue, Option, Result, Err}
use Rattle.atomic_table.specs.Seated.{TableId}
use Rattle.gf_ops.specs.declared.op.Op.{Op}
use Rattle.gf_causal.specs.Ready.{NoneIsReady}
use Rattle.gf_causal.specs.HeldOperations.{IsClash, IsFree}
use Rattle.gf_causal.specs.declared.buffer.Offered.{Offered}
use Rattle.gf_causal.specs.declared.faults.OfferFault.{OfferFault}
use Rattle.gf_causal.specs.declared.faults.OfferFault.TheVariants.{OutOfMemory}
use Rattle.gf_ops.specs.declared.op.OpId.{OpId}
use Rattle.gf_ops.specs.Limits.{IsInRange}
use Rattle.gf_causal.specs.DeliveredPart.{AreReady}
use Rattle.gf_site.specs.Course.{IsCourse}
use Rattle.gf_site.specs.declared.replica.Step.{Step}
use Rattle.gf_site.specs.declared.replica.Step.TheVariants as step
use Rattle.gf_json.specs.declared.scripts.Command.{Command}
use Rattle.gf_site.specs.declared.cause.Cause.TheVariants.{NeverComes}
use Rattle.gf_worker.specs.declared.peer.Peer.{Peer}
use Rattle.gf_worker.specs.declared.work.Work.{Work}
use Rattle.gf_worker.specs.declared.waiting.Waited.{Waited}
use Rattle.gf_worker.specs.declared.waiting.Waited.TheVariants.{Came, Never, Short}
use Rattle.gf_worker.specs.Messages.{own, messages_of}
use Rattle.gf_worker.specs.Peers.{all_ended, ArePlaced, seat_of}
use Rattle.gf_worker.specs.Coming.{HasCome, IsWhole}
use Rattle.gf_worker.specs.Played.{IsPlayed}
use Rattle.gf_site.specs.declared.cause.Cause.{Cause}
use Rattle.gf_site.specs.CommandAnswers.{HasOp, AwaitAnswer}
use Rattle.gf_worker.specs.Turns.{Turn}

-- what the site has and holds of other sites came from peers. Unless it is short, it has or holds
-- all that came, where that with its own is a valid history
pub record Gathers (w : Work) : Type 0 where
  pub has : (a : Op) → Contains w.site.ops a → a.id.site ≢ w.site.number
      → HasCome w.peers.items a
  pub holds : (a : Op) → Contains w.site.held a
      → (a.id.site ≢ w.site.number) × HasCome w.peers.items a
  pub keeps : w.short ≡ false → (h : List Op) → IsWhole h w.site.ops w.peers.items
      → (a : Op) → HasCome w.peers.items a → a.id.site ≢ w.site.number
      → Contains w.site.ops a ⊎ Contains w.site.held a

-- where a command was refused as NeverComes, nothing more comes, and no held operation was ready
-- then
pub record IsSilent (w : Work) (t : Turn) : Type 0 where
  pub ended : IsTrue (all_ended w.peers.items)
  pub none : NoneIsReady t.before w.site.held
  pub ready : AreReady t.before

-- the commands so far were played
pub record IsUnderway (commands : List Command) (w : Work) : Type 0 where
  pub course : IsCourse w.site.number w.site.ops
  pub played : IsPlayed w.site.number commands w.site.ops w.report
  pub silent : (t : Turn) → Contains played.turns t → t.refusal ≡ Some NeverComes
      → IsSilent w t

-- the peer was sent what the site made; a site that is short may have sent a prefix of it
pub record IsSent (ops : List Op) (short : Bool) (p : Peer) : Type 0 where
  pub first : List Op
  pub rest : List Op
  pub whole : ops ≡ first ++ rest
  pub sent : p.send.sent ≡ messages_of first
  pub all : short ≡ false → rest ≡ []

-- each peer was sent what the site made; a site that is short may have sent a prefix of it
abbrev pub AreSent : Work → Type 0
AreSent w = (p : Peer) → Contains w.peers.items p
    → IsSent (own w.site.number w.site.ops) w.short p

-- what stays true while a worker takes messages and its site steps
pub record Continues (old new : Work) : Type 0 where
  pub placed : (links : List TableId) → ArePlaced links old.peers.items
      → ArePlaced links new.peers.items
  pub seats : map seat_of new.peers.items ≡ map seat_of old.peers.items
  pub sends : map (λ p. p.send) new.peers.items ≡ map (λ p. p.send) old.peers.items
  pub number : new.site.number ≡ old.site.number
  pub made : Gathers old → own new.site.number new.site.ops ≡ own old.site.number old.site.ops
  pub short : new.short ≡ false → old.short ≡ false
  pub gathers : Gathers old → Gathers new
  pub underway : (commands : List Command) → Gathers old → IsUnderway commands old
      → IsUnderway commands new

-- what the site holds after operations came: what it held, and of these only operations of other
-- sites. Unless it is short, it has or holds each of them. Left out are operations that break a
-- limit, or that are others under a known id
pub record Hears (s : ℕ) (ops held come : List Op) (short : Bool) (new : List Op) : Type 0 where
  pub from : (a : Op) → Contains new a
      → Contains held a ⊎ (Contains come a × (a.id.site ≢ s))
  pub stays : (a : Op) → Contains held a → Contains new a
  pub keeps : short ≡ false → (a : Op) → Contains come a → a.id.site ≢ s
      → (Contains ops a ⊎ Contains new a) ⊎ ((¬ (IsInRange a)) ⊎ IsClash held ops a)

-- the offer was refused for want of memory
abbrev pub ran_out : Result Offered OfferFault → Bool
ran_out (Err OutOfMemory) = true
ran_out r = false

-- the site may step again
abbrev pub goes_on : Step → Bool
goes_on (step.Applied i) = true
goes_on (step.Dropped i f) = true
goes_on step.Idle = false

-- what waiting for the operation under the id came to
abbrev pub Waits : OpId → Work → Waited → Type 0
Waits i w Came = (w.short ≡ false) × HasOp w.site.ops i
Waits i w Never = (w.short ≡ false) × IsFree w.site.ops i × IsTrue (all_ended w.peers.items)
    × NoneIsReady w.site.ops w.site.held
Waits i w Short = w.short ≡ true

-- the answer to an Await right now. If it is that nothing comes any more, every peer has ended and
-- nothing is ready
pub record Judges (i : OpId) (w : Work) (r : Option Cause) : Type 0 where
  pub answer : AwaitAnswer w.site.number w.site.ops [] i r
  pub silent : r ≡ Some NeverComes
      → IsTrue (all_ended w.peers.items) × NoneIsReady w.site.ops w.site.held

-- the commands were played; a worker that is short played them up to one
pub record Plays (script : List Command) (w : Work) : Type 0 where
  pub done : List Command
  pub rest : List Command
  pub whole : script ≡ done ++ rest
  pub full : w.short ≡ false → rest ≡ []
  pub underway : IsUnderway done w
