-- The world of replicas: sites, the messages that they made, and what may happen at a site (this
-- project's choice, over causal delivery).
use Rattle.std.specs.Prelude.{◌≡◌, ◌≢◌, ◌⊎◌, ℕ, zero, suc, List, [], ◌∷◌}
use Rattle.std.specs.Prelude.{◌++◌, Contains, Option, Some, None, slice_get, slice_set}
use Rattle.gf_ops.specs.declared.op.Op.{Op}
use Rattle.gf_ops.specs.declared.op.OpId.{OpId}
use Rattle.gf_ops.specs.declared.change.Change.{Change}
use Rattle.gf_causal.specs.Ready.{NoneIsReady}
use Rattle.gf_causal.specs.HeldOperations.{IsNew, Adds}
use Rattle.gf_site.specs.declared.faults.AuthorFault.{AuthorFault}
use Rattle.gf_site.specs.declared.faults.AuthorFault.TheVariants.{OutOfMemory}
use Rattle.gf_replicas.specs.declared.world.World.{World}
use Rattle.gf_replicas.specs.declared.event.Event.{Event}
use Rattle.gf_replicas.specs.declared.event.Event.TheVariants.{Author, Offer, Step}
use Rattle.gf_site.specs.SiteState.{SiteState, new_site}
use Rattle.gf_site.specs.Events.{Refuses, Authors, Applies}

-- the sites from number 1 on, and the messages in the order in which they were authored
pub record WorldState : Type 0 where
  pub sites : List SiteState
  pub messages : List Op

-- the world as a list of sites and one of messages
abbrev pub state_of : World → WorldState
state_of world = record { sites = world.sites.items; messages = world.messages.items }

-- the sites 1 to n, which have and hold nothing
abbrev pub new_sites : ℕ → List SiteState
new_sites zero = []
new_sites (suc n) = new_sites n ++ new_site (suc n) ∷ []

-- the site of the number s
abbrev pub site_at : List SiteState → ℕ → Option SiteState
site_at sites zero = None
site_at sites (suc k) = slice_get sites k

-- the sites with x as that of the number s
abbrev pub with_site : List SiteState → ℕ → SiteState → List SiteState
with_site sites zero x = sites
with_site sites (suc k) x = slice_set sites k x

-- the site that the event is at
abbrev pub site_of : Event → ℕ
site_of (Author s c) = s
site_of (Offer s m) = s
site_of (Step s) = s

-- a site that is offered a holds it from then on, unless it holds it or has it
pub data Receives (old : SiteState) (a : Op) : SiteState → Type 0 where
  already : Contains old.held a ⊎ Contains old.ops a → Receives old a old
  holds : {more : List Op} → IsNew old.held old.ops a → Adds old.held a more
      → Receives old a (record old { held = more })

-- what an event makes of the world
pub data Happens (old : WorldState) : Event → WorldState → Type 0 where
  authors : {s : ℕ} {c : Change} {x y : SiteState} {a : Op} → site_at old.sites s ≡ Some x
      → Authors x c a y →
      Happens old (Author s c) (record {
        sites = with_site old.sites s y;
        messages = old.messages ++ a ∷ [];
      })
  refuses : {s : ℕ} {c : Change} {x : SiteState} {f : AuthorFault}
      → site_at old.sites s ≡ Some x → Refuses x.number x.ops c f → f ≢ OutOfMemory
      → Happens old (Author s c) old
  receives : {s m : ℕ} {x y : SiteState} {a : Op} → site_at old.sites s ≡ Some x
      → slice_get old.messages m ≡ Some a → Receives x a y →
      Happens old (Offer s m) (record old { sites = with_site old.sites s y })
  no_message : {s m : ℕ} → slice_get old.messages m ≡ None → Happens old (Offer s m) old
  applies : {s : ℕ} {x y : SiteState} {i : OpId} → site_at old.sites s ≡ Some x
      → Applies x i y → Happens old (Step s) (record old { sites = with_site old.sites s y })
  idle : {s : ℕ} {x : SiteState} → site_at old.sites s ≡ Some x → NoneIsReady x.ops x.held
      → Happens old (Step s) old
  no_site : {e : Event} → site_at old.sites (site_of e) ≡ None → Happens old e old

-- the message, if there is one, with the site s that it is offered to
abbrev pub sent : ℕ → Option Op → List (ℕ × Op)
sent s (Some a) = (s, a) ∷ []
sent s None = []

-- the message that the event offers, if there is one, with the site that it is offered to
abbrev pub offer_in : List Op → Event → List (ℕ × Op)
offer_in messages (Offer s m) = sent s (slice_get messages m)
offer_in messages (Author s c) = []
offer_in messages (Step s) = []

-- n sites come to this world by the events, which offered these messages to these sites
pub data IsWorld (n : ℕ) : List Event → List (ℕ × Op) → WorldState → Type 0 where
  start : IsWorld n [] [] (record { sites = new_sites n; messages = [] })
  next : {events : List Event} {offers : List (ℕ × Op)} {old new : WorldState} {e : Event}
      → IsWorld n events offers old → Happens old e new →
      IsWorld n (events ++ e ∷ []) (offers ++ offer_in old.messages e) new

-- the world that n sites come to by the events
pub record IsWorldOf (n : ℕ) (events : List Event) (world : WorldState) : Type 0 where
  pub offers : List (ℕ × Op)
  pub is : IsWorld n events offers world
