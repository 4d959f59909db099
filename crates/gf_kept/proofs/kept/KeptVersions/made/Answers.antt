use Rattle.gf_visible.proofs.VisibleLemmas.{makes_one}
use Rattle.gf_kept.proofs.GatheredLemmas.{listed_of_one}
use Rattle.gf_kept.proofs.kept.KeptVersions.made.Goals as goal

pub returns-in-Create-clause-listed : goal.returns-in-Create-clause-listed
returns-in-Create-clause-listed c =
    let a = c.args.op.now in
    let found = c.on_object.ensures in
    listed_of_one c.args.versions.now c.recall_valid.ensures a
    (makes_one a c.in-Create.field-0 c.in-Create.is) (λ v. v.items) c.args.most c.on_object.result
    found.found found.few found.more
