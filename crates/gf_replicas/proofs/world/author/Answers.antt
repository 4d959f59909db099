use Rattle.std.proofs.Common.{◌≡◌, subst}
use Rattle.std.specs.Prelude.{None}
use Rattle.gf_replicas.specs.World.{state_of, site_at, no_site}
use Rattle.gf_replicas.proofs.HappenLemmas.{stands_at, ok_gives, authors_here, refuses_here}
use Rattle.gf_replicas.proofs.world.author.Goals as goal

pub returns-in_default : goal.returns-in_default
returns-in_default c = no_site (subst (λ l. site_at l c.args.number ≡ None) c.deref.ensures.value
    c.in_default.ensures.none)

pub returns-in_ok-push-in-Ok : goal.returns-in_ok-push-in-Ok
returns-in_ok-push-in-Ok c =
    let world = state_of c.args.world.now in
    let found = c.in-Some.ensures.found in
    let x = c.index_mut.result.now in
    let at = stands_at world.sites c.deref.result.now c.in-Some.index x c.deref.ensures.value
    found.1 c.index_mut.ensures.value in
    rw c.in_ok-push-in-Ok.ensures.items (authors_here world c.args.number c.in-Some.index found.0 x
    c.author.new.self at c.args.change c.in-Ok.op c.in-Ok.ensures.ok)

pub returns-in-Err : goal.returns-in-Err
returns-in-Err c =
    let world = state_of c.args.world.now in
    let found = c.in-Some.ensures.found in
    let x = c.index_mut.result.now in
    let at = stands_at world.sites c.deref.result.now c.in-Some.index x c.deref.ensures.value
    found.1 c.index_mut.ensures.value in
    ok_gives c.unless_memory.result (λ n. refuses_here world c.args.number c.in-Some.index found.0 x
    c.author.new.self at c.args.change c.in-Err.fault c.in-Err.ensures.err n c.in-Err.ensures.same)
    c.unless_memory.ensures.ok
