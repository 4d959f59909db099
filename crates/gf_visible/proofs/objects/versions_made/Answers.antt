use Rattle.std.proofs.Common.{rules}
use Rattle.gf_visible.proofs.VisibleLemmas.{made_in, makes_one, versions_of_one}
use Rattle.gf_visible.proofs.objects.versions_made.Goals as goal

pub returns-in-Ok : goal.returns-in-Ok
returns-in-Ok c =
    let a = c.args.op.now in
    versions_of_one c.args.versions.now a (makes_one a c.in-Create.field-0 c.in-Create.is)
    c.into_vec.result.items (rw c.into_vec.ensures c.in-Ok.ensures.groups)

pub unreachable-requires : goal.unreachable-requires
unreachable-requires c =
    let a = c.args.op.now in
    let made = made_in c.args.versions.now a c.requires.contained
    (makes_one a c.in-Create.field-0 c.in-Create.is) in
    search rules
