use Rattle.std.proofs.Common.{◌≡◌, subst}
use Rattle.std.specs.Prelude.{None}
use Rattle.gf_replicas.specs.World.{state_of, site_at, no_site}
use Rattle.gf_replicas.proofs.HappenLemmas.{stands_at, steps_here}
use Rattle.gf_replicas.proofs.world.step.Goals as goal

pub returns-in_ok-step : goal.returns-in_ok-step
returns-in_ok-step c =
    let world = state_of c.args.world.now in
    let found = c.in-Some.ensures.found in
    let x = c.index_mut.result.now in
    let at = stands_at world.sites c.deref.result.now c.in-Some.index x c.deref.ensures.value
    found.1 c.index_mut.ensures.value in
    steps_here world c.args.number c.in-Some.index found.0 x c.step.new.self at c.in_ok-step.field-0
    c.requires c.in_ok-step.ensures.ok

pub returns-in_default : goal.returns-in_default
returns-in_default c = no_site (subst (λ l. site_at l c.args.number ≡ None) c.deref.ensures.value
    c.in_default.ensures.none)
