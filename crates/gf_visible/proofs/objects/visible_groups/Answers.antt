use Rattle.std.proofs.Common.{sym, subst}
use Rattle.std.proofs.lemmas.List.{length-map}
use Rattle.gf_classes.specs.ConflictClasses.{AreClassesOf}
use Rattle.gf_table.specs.Positions.{positions_on}
use Rattle.gf_groups.specs.Versions.{IsMade}
use Rattle.gf_visible.proofs.ShownGroupLemmas.{more_on, sets_rise, visible_on}
use Rattle.gf_visible.proofs.objects.visible_groups.Goals as goal

pub returns-in_default-clause-more : goal.returns-in_default-clause-more
returns-in_default-clause-more c =
    let h = c.args.versions.now in
    let listed = rw c.history-history.ensures.ops at c.in_ok-sets.ensures in
    more_on h c.history-history.ensures.valid c.args.object c.requires.made c.args.most
    (rw c.in_default.is at listed)

pub add_groups-requires : goal.add_groups-requires
add_groups-requires c =
    let h = c.history-history.result.now.ops in
    let listed = rw c.in-Some.is at c.in_ok-sets.ensures in
    sets_rise h (positions_on h c.args.object) c.in-Some.sets.items listed.0

pub returns-clause-groups : goal.returns-clause-groups
returns-clause-groups c =
    let listed = rw c.in-Some.is at (rw c.history-history.ensures.ops at c.in_ok-sets.ensures) in
    let added = rw c.history-history.ensures.ops at c.in_ok-add_groups.ensures in
    rw (added, c.new-groups.ensures.items)
    (visible_on c.args.versions.now c.history-history.ensures.valid c.args.object c.requires.made
    c.in-Some.sets.items listed.0)

pub returns-clause-few : goal.returns-clause-few
returns-clause-few c =
    let listed = rw c.in-Some.is at c.in_ok-sets.ensures in
    rw (c.in_ok-add_groups.ensures, c.new-groups.ensures.items, length-map) listed.1

pub shown_sets-requires-clause-classes : goal.shown_sets-requires-clause-classes
shown_sets-requires-clause-classes c = subst
    (λ h. AreClassesOf h (positions_on h c.args.object) c.in_ok-classes.classes)
    (sym c.history-history.ensures.ops) c.in_ok-classes.ensures

pub shown_sets-requires-clause-made : goal.shown_sets-requires-clause-made
shown_sets-requires-clause-made c = subst (λ h. IsMade h c.args.object)
    (sym c.history-history.ensures.ops) c.requires.made
