-- Lists of operations that the sites of one world have (this project's choice).
use Rattle.std.specs.Prelude.{◌≡◌, ℕ, ◌+◌, ◌≤◌, List, [], map, length, Contains}
use Rattle.std.specs.Prelude.{Some, slice_get}
use Rattle.gf_ops.specs.declared.op.Op.{Op}
use Rattle.gf_causal.specs.DeliveredPart.{HaveSame}
use Rattle.gf_site.specs.SiteState.{SiteState}
use Rattle.gf_site.specs.Course.{IsCourse}
use Rattle.gf_replicas.specs.declared.event.Event.{Event}
use Rattle.gf_replicas.specs.World.{WorldState, IsWorldOf}

-- the lists are courses of sites from 1 on, with the same operations, each made by one of these
pub record AreCourses (lists : List (List Op)) : Type 0 where
  pub course : (k : ℕ) (h : List Op) → slice_get lists k ≡ Some h → IsCourse (k + 1) h
  pub same : (g h : List Op) → Contains lists g → Contains lists h → HaveSame g h
  pub among : (h : List Op) (a : Op) → Contains lists h → Contains h a
      → a.id.site ≤ length lists

-- some events bring as many new sites to these lists, and each site then holds nothing
pub record HaveEvents (lists : List (List Op)) : Type 0 where
  pub events : List Event
  pub world : WorldState
  pub run : IsWorldOf (length lists) events world
  pub lists_are : map (λ x. x.ops) world.sites ≡ lists
  pub held_none : (x : SiteState) → Contains world.sites x → x.held ≡ []
