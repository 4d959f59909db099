use Rattle.std.proofs.Common.{refl}
use Rattle.gf_replicas.proofs.SitesLemmas.{new_sites-more}
use Rattle.gf_replicas.proofs.world.sites_to.Goals as goal

pub loop-number-preserved : goal.loop-number-preserved
loop-number-preserved c = rw (
  c.in_ok-push.ensures.items,
  c.new.ensures,
  c.loop-number.invariant,
  new_sites-more c.loop-number.number,
) refl
