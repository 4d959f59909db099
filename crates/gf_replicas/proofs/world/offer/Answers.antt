use Rattle.std.proofs.Common.{◌≡◌, subst}
use Rattle.std.specs.Prelude.{None}
use Rattle.gf_replicas.specs.World.{state_of, site_at, no_site, no_message}
use Rattle.gf_replicas.proofs.HappenLemmas.{stands_at, message_gone, message_there, ok_gives}
use Rattle.gf_replicas.proofs.HappenLemmas.{receives_here}
use Rattle.gf_replicas.proofs.world.offer.Goals as goal

pub returns-in_default : goal.returns-in_default
returns-in_default c = no_site (subst (λ l. site_at l c.args.number ≡ None) c.deref.ensures.value
    c.in_default.ensures.none)

pub returns-in_default-message_at : goal.returns-in_default-message_at
returns-in_default-message_at c = no_message (message_gone c.args.world.now.messages.items
    c.deref-2.result.now c.args.message c.message_at.result c.deref-2.ensures.value
    c.message_at.ensures c.in_default-message_at.is)

pub returns : goal.returns
returns c =
    let world = state_of c.args.world.now in
    let found = c.in-Some.ensures.found in
    let x = c.index_mut.result.now in
    let at = stands_at world.sites c.deref.result.now c.in-Some.index x c.deref.ensures.value
    found.1 c.index_mut.ensures.value in
    let a = c.in_ok-copy.copy in
    let message = message_there world.messages c.deref-2.result.now c.args.message
    c.message_at.result c.in-Some-message_at.op a c.deref-2.ensures.value c.message_at.ensures
    c.in-Some-message_at.is c.in_ok-copy.ensures in
    let told = c.receive.ensures in
    ok_gives c.unless_full.result (λ n. receives_here world c.args.number c.in-Some.index found.0 x
    c.receive.new.self at c.args.message a c.receive.result c.requires message n told.range
    told.clash told.already told.held told.same told.kept) c.unless_full.ensures.ok
