use Rattle.std.proofs.Common.{ap, map, subst, sym, ◌∙◌}
use Rattle.gf_classes.specs.ConflictClasses.{AreClassesOf}
use Rattle.gf_table.specs.Positions.{positions_on}
use Rattle.gf_maximal.specs.Classes.{spread}
use Rattle.gf_listing.proofs.CountingLemmas.{sets_spread}
use Rattle.gf_listing.proofs.versions.Versions.made_groups.Goals as goal

pub groups_from-requires-clause-table : goal.groups_from-requires-clause-table
groups_from-requires-clause-table c =
    let h = c.self.inside.history.now.ops in
    let o = c.args.object in
    let s = c.in_ok-classes.classes in
    let classes = subst (λ h. AreClassesOf h (positions_on h o) s) (sym c.self.view_is)
    c.in_ok-classes.ensures in
    sets_spread h o s classes c.in_ok-sets.sets.items c.in_ok-sets-2.sets.items
    c.in_ok-sets.ensures
    (c.in_ok-sets-2.ensures ∙ ap (map (spread s)) c.deref.ensures.value)
