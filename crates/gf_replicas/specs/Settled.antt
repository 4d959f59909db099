-- When a site of a world has nothing to wait for (this project's choice, over causal delivery).
use Rattle.std.specs.Prelude.{◌≡◌, ◌≢◌, ℕ, List, ◌∷◌, ◌++◌, Contains}
use Rattle.gf_ops.specs.declared.op.Op.{Op}
use Rattle.gf_ops.specs.declared.change.Change.{Change}
use Rattle.gf_causal.specs.Ready.{NoneIsReady}
use Rattle.gf_site.specs.SiteState.{SiteState}
use Rattle.gf_replicas.specs.declared.event.Event.{Event}
use Rattle.gf_replicas.specs.declared.event.Event.TheVariants.{Author, Offer}
use Rattle.gf_replicas.specs.World.{WorldState}

-- the message m is offered to the site s, and no site makes a change behind that
pub record IsOfferedLast (events : List Event) (s m : ℕ) : Type 0 where
  pub before : List Event
  pub after : List Event
  pub events_are : events ≡ before ++ Offer s m ∷ after
  pub no_change : (t : ℕ) (c : Change) → ¬ (Contains after (Author t c))

-- the site x of the number s was offered all messages of the others, and holds none that is ready
pub record HasHeardAll (world : WorldState) (offers : List (ℕ × Op)) (s : ℕ)
    (x : SiteState) : Type 0 where
  pub offered : (a : Op) → Contains world.messages a → a.id.site ≢ s
      → Contains offers (s, a)
  pub idle : NoneIsReady x.ops x.held
