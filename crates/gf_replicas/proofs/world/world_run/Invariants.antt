use Rattle.gf_replicas.specs.World.{state_of, IsWorldOf}
use Rattle.gf_replicas.proofs.world.world_run.Given as goal

abbrev pub invariant-loop-event : goal.invariant-loop-event
invariant-loop-event l = IsWorldOf l.sites l.yielded (state_of l.world)
