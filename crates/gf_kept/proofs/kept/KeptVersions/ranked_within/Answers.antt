use Rattle.gf_visible.proofs.VisibleLemmas.{more_visible}
use Rattle.gf_kept.proofs.GatheredLemmas.{as_few, keys_apart, ranked_items}
use Rattle.gf_kept.proofs.kept.KeptVersions.ranked_within.Goals as goal

pub returns-in_default-clause-more : goal.returns-in_default-clause-more
returns-in_default-clause-more c =
    let h = c.args.versions.now in
    more_visible h c.in_ok-items.ensures.valid h c.args.most
    (rw c.in_default.is at c.in_ok-items.ensures.listed)

pub rank-requires : goal.rank-requires
rank-requires c =
    let h = c.args.versions.now in
    let all = rw c.in-Some.is at c.in_ok-items.ensures.listed in
    keys_apart h c.in_ok-items.ensures.valid c.in-Some.items.items all.0

pub returns-clause-ranked : goal.returns-clause-ranked
returns-clause-ranked c =
    let h = c.args.versions.now in
    let all = rw c.in-Some.is at c.in_ok-items.ensures.listed in
    ranked_items h c.in_ok-items.ensures.valid c.in-Some.items.items all.0
    c.in_ok-ranked.ranked.items.items c.in_ok-ranked.ensures.moved c.in_ok-ranked.ensures.falling

pub returns-clause-few : goal.returns-clause-few
returns-clause-few c =
    let all = rw c.in-Some.is at c.in_ok-items.ensures.listed in
    as_few c.args.most c.in-Some.items.items c.in_ok-ranked.ranked.items.items
    c.in_ok-ranked.ensures.moved all.1
