use Rattle.std.proofs.Common.{◌≡◌}
use Rattle.gf_replicas.specs.World.{new_sites}
use Rattle.gf_replicas.proofs.world.sites_to.Given as goal

abbrev pub invariant-loop-number : goal.invariant-loop-number
invariant-loop-number l = l.sites.items ≡ new_sites l.number
