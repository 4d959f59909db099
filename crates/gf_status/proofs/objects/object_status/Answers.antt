use Rattle.std.proofs.Common.{map, subst, sym}
use Rattle.gf_groups.specs.Versions.{IsVersionGroup}
use Rattle.gf_listing.specs.Listed.{AreOn}
use Rattle.gf_visible.specs.ShownVersions.{AreVisibleOn}
use Rattle.gf_status.proofs.LastLemmas.{now}
use Rattle.gf_status.proofs.StatusLemmas.{visible_versions}
use Rattle.gf_status.proofs.objects.object_status.Goals as goal

pub hidden_of-requires-clause-all : goal.hidden_of-requires-clause-all
hidden_of-requires-clause-all c =
    let on = subst (λ h. AreOn h c.args.object (map now c.in_ok-all-in-Some.all.items))
    (sym c.history-history.ensures.ops) c.in_ok-all-in-Some.ensures in
    rw c.deref.ensures.value on

pub hidden_of-requires-clause-groups : goal.hidden_of-requires-clause-groups
hidden_of-requires-clause-groups c =
    let all = rw c.in-Some.is at c.in_ok-groups.ensures.groups in
    let there = subst (λ h. AreVisibleOn h c.args.object c.in-Some.groups.items)
    (sym c.history-history.ensures.ops) all in
    subst (AreVisibleOn c.history-history.result.now.ops c.args.object)
    (sym c.deref-in-Some.ensures.value) there

pub differences-requires : goal.differences-requires
differences-requires c =
    let all = rw c.in-Some.is at c.in_ok-groups.ensures.groups in
    rw c.deref-in-Some-2.ensures.value
    (λ g i. subst (λ h. IsVersionGroup h g) (sym c.history-history.ensures.ops)
    (visible_versions c.args.versions.now c.args.object c.in-Some.groups.items all g i))
