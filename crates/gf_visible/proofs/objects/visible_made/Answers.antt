use Rattle.gf_visible.proofs.VisibleLemmas.{found_of_one, made_in, makes_one}
use Rattle.gf_visible.proofs.objects.visible_made.Goals as goal

pub visible_groups-requires-clause-made : goal.visible_groups-requires-clause-made
visible_groups-requires-clause-made c =
    let a = c.args.op.now in
    made_in c.args.versions.now a c.requires.contained
    (makes_one a c.in-Create.field-0 c.in-Create.is)

pub returns-in-Create : goal.returns-in-Create
returns-in-Create c =
    let a = c.args.op.now in
    found_of_one c.args.versions.now a (makes_one a c.in-Create.field-0 c.in-Create.is)
    (λ v. v.items) c.args.most c.visible_groups.result
    c.visible_groups.ensures.groups c.visible_groups.ensures.few c.visible_groups.ensures.more
