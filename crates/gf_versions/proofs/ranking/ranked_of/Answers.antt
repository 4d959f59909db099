use Rattle.gf_versions.proofs.RankingLemmas.{no_more_items, ranked_from_sorted}
use Rattle.gf_versions.proofs.ranking.ranked_of.Goals as goal

pub returns-clause-ranked : goal.returns-clause-ranked
returns-clause-ranked c =
    let shown = c.in_ok-items.ensures in
    let sorted = c.in_ok-sort.ensures in
    ranked_from_sorted c.args.history.now.ops c.args.groups.now c.in_ok-items.items.items
    c.sort.new.items.items shown.valid c.requires.once shown.shown sorted.moved sorted.sorted

pub returns-clause-few : goal.returns-clause-few
returns-clause-few c = no_more_items c.args.history.now.ops c.args.groups.now
    c.in_ok-items.items.items c.sort.new.items.items c.in_ok-items.ensures.shown
    c.in_ok-sort.ensures.moved
