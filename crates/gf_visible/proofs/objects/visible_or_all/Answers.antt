use Rattle.std.proofs.Common.{◌∷◌, []}
use Rattle.gf_visible.proofs.VisibleLemmas.{have_visible}
use Rattle.gf_visible.proofs.objects.visible_or_all.Goals as goal

pub returns-in-Some : goal.returns-in-Some
returns-in-Some c =
    let all = rw c.in-Some.is at c.in_ok-groups.ensures in
    have_visible c.args.versions.now (c.args.op.now ∷ []) c.in-Some.groups.items all.0
