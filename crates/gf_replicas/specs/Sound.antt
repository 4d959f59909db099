-- What every world keeps (this project's choice, over causal delivery).
use Rattle.std.specs.Prelude.{◌≡◌, ℕ, List, Contains, Some}
use Rattle.gf_ops.specs.declared.op.Op.{Op}
use Rattle.gf_ops.specs.Accepted.{AreAccepted}
use Rattle.gf_ops.specs.ValidHistory.{IsValid}
use Rattle.gf_site.specs.SiteState.{SiteState}
use Rattle.gf_site.specs.Course.{IsCourse}
use Rattle.gf_replicas.specs.World.{WorldState, site_at}

-- the site x of the number s has a course of messages, with all of its own, and holds messages
pub record IsSiteOf (messages : List Op) (s : ℕ) (x : SiteState) : Type 0 where
  pub number : x.number ≡ s
  pub course : IsCourse s x.ops
  pub has : (a : Op) → Contains x.ops a → Contains messages a
  pub holds : (a : Op) → Contains x.held a → Contains messages a
  pub own : (a : Op) → Contains messages a → a.id.site ≡ s → Contains x.ops a

-- the messages are a valid history, each accepted behind those before it, and each site has a
-- course of them
pub record IsSound (world : WorldState) : Type 0 where
  pub valid : IsValid world.messages
  pub accepted : AreAccepted world.messages
  pub sites : (s : ℕ) (x : SiteState) → site_at world.sites s ≡ Some x
      → IsSiteOf world.messages s x
