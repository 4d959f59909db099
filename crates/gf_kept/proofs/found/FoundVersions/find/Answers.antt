use Rattle.std.proofs.Common.{subst, sym}
use Rattle.gf_groups.specs.Versions.{IsVersionGroup}
use Rattle.gf_kept.proofs.PlacedLemmas.{each_version, placed_from_ranked}
use Rattle.gf_kept.proofs.found.FoundVersions.find.Goals as goal

pub ranked_of-requires-clause-versions : goal.ranked_of-requires-clause-versions
ranked_of-requires-clause-versions c =
    let h = c.args.versions.now in
    let all = rw c.in-Some.is at c.in_ok-groups.ensures.groups in
    rw c.deref.ensures.value
    (λ g i. subst (λ z. IsVersionGroup z g) (sym c.history-history.ensures.ops)
    (each_version h c.args.object c.in-Some.groups.items all g i))

pub returns-clause-found : goal.returns-clause-found
returns-clause-found c =
    let h = c.args.versions.now in
    let all = rw c.in-Some.is at c.in_ok-groups.ensures.groups in
    let ranked = rw (c.history-history.ensures.ops, c.deref.ensures.value)
    at c.in_ok-items.ensures.ranked in
    placed_from_ranked h c.args.object c.in-Some.groups.items c.in_ok-items.field-0.items.items
    all ranked
