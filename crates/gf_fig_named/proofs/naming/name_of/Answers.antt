use Rattle.std.proofs.Common.{refl}
use Rattle.gf_names.specs.Telling.{AreTelling}
use Rattle.gf_ops.specs.Version.{IsMember}
use Rattle.gf_fig_named.specs.Others.{AreOthers}
use Rattle.gf_fig_named.proofs.naming.name_of.Goals as goal

pub returns : goal.returns
returns c =
    let h = c.args.history.now.ops in
    let others = c.in_ok-others.others.items in
    let are : AreOthers c.args.ids.now c.args.lacked.now c.args.key.now.ops others =
    rw c.as_slice.ensures at c.in_ok-others.ensures in
    let tells : AreTelling h c.args.key.now.ops (IsMember h others) c.in_ok-telling.field-0 =
    rw (c.as_slice-2.ensures, c.deref.ensures.value) at c.in_ok-telling.ensures in
    record { object = refl; others = others; are = are; telling = tells }
