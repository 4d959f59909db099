use Rattle.std.proofs.Common.{rules, arith, ◌≤◌, List, length, subst, sym}
use Rattle.std.proofs.lemmas.List.{take_all}
use Rattle.gf_ops.specs.declared.op.ObjectId.{ObjectId}
use Rattle.gf_kept.specs.Keeping.{Keeps}
use Rattle.gf_kept.proofs.KeepingLemmas.{AreForgotten, kept_elsewhere}
use Rattle.gf_kept.proofs.kept.KeptVersions.forget_all.Goals as goal

pub returns : goal.returns
returns c = λ h k valid too same keeps.
    let objects = c.args.objects.now in
    let old = c.self.inside.objects.entries in
    let new = c.loop-object.self-inside.objects.entries in
    let past : length objects ≤ c.loop-object.object-index = search (rules, arith) in
    kept_elsewhere h k valid too objects same old new
    (subst (λ (os : List ObjectId). AreForgotten os old new)
    (take_all c.loop-object.object-index objects past) c.loop-object.invariant)
    (subst (Keeps h) (sym c.self.view_is) keeps)
