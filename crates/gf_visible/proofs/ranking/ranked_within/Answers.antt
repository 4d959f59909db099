use Rattle.std.proofs.Common.{arith, subst, sym}
use Rattle.gf_groups.specs.Versions.{IsVersionGroup}
use Rattle.gf_visible.proofs.VisibleLemmas.{have_visible, more_visible, ranked_have}
use Rattle.gf_visible.proofs.ranking.ranked_within.Goals as goal

pub returns-in_default-clause-more : goal.returns-in_default-clause-more
returns-in_default-clause-more c =
    let h = c.args.versions.now in
    more_visible h c.history-history.ensures.valid h c.args.most
    (rw c.in_default.is at c.in_ok-groups.ensures)

pub ranked_of-requires-clause-versions : goal.ranked_of-requires-clause-versions
ranked_of-requires-clause-versions c =
    let h = c.args.versions.now in
    let all = rw c.in-Some.is at c.in_ok-groups.ensures in
    let have = have_visible h h c.in-Some.groups.items all.0 in
    rw c.deref.ensures.value
    (λ g i. subst (λ z. IsVersionGroup z g) (sym c.history-history.ensures.ops) (have.each g i).0)

pub ranked_of-requires-clause-once : goal.ranked_of-requires-clause-once
ranked_of-requires-clause-once c =
    let all = rw c.in-Some.is at c.in_ok-groups.ensures in
    rw c.deref.ensures.value all.0.once

pub returns-clause-ranked : goal.returns-clause-ranked
returns-clause-ranked c =
    let h = c.args.versions.now in
    let all = rw c.in-Some.is at c.in_ok-groups.ensures in
    let ranked = rw (c.history-history.ensures.ops, c.deref.ensures.value)
    at c.in_ok-ranked.ensures.ranked in
    ranked_have h c.history-history.ensures.valid c.in-Some.groups.items
    (have_visible h h c.in-Some.groups.items all.0) c.in_ok-ranked.ranked.items.items ranked

pub returns-clause-few : goal.returns-clause-few
returns-clause-few c =
    let all = rw c.in-Some.is at c.in_ok-groups.ensures in
    let few = rw c.deref.ensures.value at c.in_ok-ranked.ensures.few in
    let most = all.1 in
    omega (arith, few, most)
