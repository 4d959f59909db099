-- What one change does to a site and to the list of what it made. No public clause cites this
-- module.
use Rattle.std.specs.Prelude.{◌≡◌, ◌⊎◌, List, [], ◌∷◌, ◌++◌}
use Rattle.gf_ops.specs.declared.op.Op.{Op}
use Rattle.gf_ops.specs.declared.change.Change.{Change}
use Rattle.gf_site.specs.SiteState.{SiteState}
use Rattle.gf_site.specs.Events.{Authors, Refuses}
use Rattle.gf_site.specs.declared.faults.AuthorFault.{AuthorFault}
use Rattle.gf_site.specs.declared.faults.AuthorFault.TheVariants as fault

-- the site makes the change, and its operation is appended
pub record MakesOne (c : Change) (old new : SiteState) (before after : List Op) : Type 0 where
  pub op : Op
  pub authors : Authors old c op new
  pub is : after ≡ before ++ op ∷ []

-- why the change is not made
abbrev pub RefusesOne : Change → SiteState → AuthorFault → Type 0
RefusesOne c x why = (why ≡ fault.OutOfMemory) ⊎ Refuses x.number x.ops c why
