use Rattle.gf_versions.proofs.RankingLemmas.{falling_by_keys}
use Rattle.gf_versions.proofs.ranking.rank.Goals as goal

pub returns-clause-falling : goal.returns-clause-falling
returns-clause-falling c =
    let sorted = c.in_ok-sort.ensures in
    falling_by_keys c.args.items.items c.sort.new.items.items c.requires sorted.moved sorted.sorted
