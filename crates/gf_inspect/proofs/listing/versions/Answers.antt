use Rattle.std.proofs.Common.{rules}
use Rattle.gf_inspect.proofs.ListingLemmas.{versions_of}
use Rattle.gf_inspect.proofs.listing.versions.Goals as goal

pub settled-requires : goal.settled-requires
settled-requires c = λ g h.
    ((c.in_ok-groups.ensures.groups.exactly g).0 (rw c.as_slice.ensures at h)).1

pub returns-in-Ok-clause-versions : goal.returns-in-Ok-clause-versions
returns-in-Ok-clause-versions c =
    let made = c.in-Ok.ensures in
    versions_of c.args.history.now.ops c.args.object c.in_ok-groups.groups c.in-Ok.versions.items
    (search rules) c.in_ok-groups.ensures.groups (rw c.as_slice.ensures at made)
