use Rattle.std.proofs.Common.{◌<◌, arith, length, subst, sym}
use Rattle.gf_kept.specs.Keeping.{Keeps}
use Rattle.gf_kept.proofs.KeepingLemmas.{kept_items}
use Rattle.gf_kept.proofs.PlacedLemmas.{more_on}
use Rattle.gf_kept.proofs.kept.KeptVersions.on_object.Goals as goal

pub returns-then-most-len-clause-more : goal.returns-then-most-len-clause-more
returns-then-most-len-clause-more c =
    let h = c.args.versions.now in
    let kept = c.in-Some.kept.now in
    let all = kept_items h c.self.inside.objects.entries
    (subst (Keeps h) (sym c.self.view_is) c.requires.keeps) c.args.object kept
    c.in-Some.ensures.value in
    let long : c.args.most < length kept = omega (arith, c.len.ensures, c.if-most-len.true) in
    more_on h c.recall_valid.ensures c.args.object kept all c.args.most long

pub returns-in-Some-clause-found : goal.returns-in-Some-clause-found
returns-in-Some-clause-found c =
    let h = c.args.versions.now in
    rw c.in_ok-copies.ensures
    (kept_items h c.self.inside.objects.entries
    (subst (Keeps h) (sym c.self.view_is) c.requires.keeps) c.args.object c.in-Some.kept.now
    c.in-Some.ensures.value)
