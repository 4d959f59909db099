use Rattle.std.proofs.Common.{rules, subst, sym}
use Rattle.gf_groups.specs.Versions.{IsVersionGroup}
use Rattle.gf_inspect.proofs.ListingLemmas.{versions_of}
use Rattle.gf_inspect.proofs.listing.versions_with.Goals as goal

pub settled-requires : goal.settled-requires
settled-requires c = λ g i. subst (λ h. IsVersionGroup h g) (sym c.history.ensures.ops)
    ((c.in_ok-groups.ensures.groups.exactly g).0 (rw c.as_slice.ensures at i)).1

pub returns-in-Ok-clause-versions : goal.returns-in-Ok-clause-versions
returns-in-Ok-clause-versions c =
    let made = rw c.history.ensures.ops at c.in-Ok.ensures in
    versions_of c.args.versions.now c.args.object c.in_ok-groups.groups c.in-Ok.versions.items
    (search rules) c.in_ok-groups.ensures.groups (rw c.as_slice.ensures at made)
