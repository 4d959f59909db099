use Rattle.std.proofs.Common.{[]}
use Rattle.gf_replicas.specs.World.{start, next}
use Rattle.gf_replicas.proofs.SoundLemmas.{world_sound}
use Rattle.gf_replicas.proofs.world.world_run.Goals as goal

pub loop-event-init : goal.loop-event-init
loop-event-init c = rw (c.in_ok-sites_to.ensures, c.new.ensures.items)
    (record { offers = []; is = start })

pub happen-requires : goal.happen-requires
happen-requires c = world_sound c.loop-event.invariant.is

pub loop-event-preserved : goal.loop-event-preserved
loop-event-preserved c = record {
  offers = _;
  is = next c.loop-event.invariant.is c.in_ok-happen.ensures;
}
