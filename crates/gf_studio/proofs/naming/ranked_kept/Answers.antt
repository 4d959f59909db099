use Rattle.std.specs.Prelude.{IfErr, IfNone, IfOk, IfSome}
use Rattle.std.proofs.Common.{subst, sym, ◌∙◌}
use Rattle.gf_visible.specs.ShownVersions.{HasMoreVisible}
use Rattle.gf_versions.specs.Ranking.{AreRanked}
use Rattle.gf_studio.specs.FigRun.{RefusesHistory}
use Rattle.gf_studio.proofs.DrawnLemmas.{list_made, list_refused}
use Rattle.gf_studio.proofs.naming.ranked_kept.Goals as goal

pub returns-clause-ranked : goal.returns-clause-ranked
returns-clause-ranked c =
    let found = c.ranked_within.result in
    let ranked = subst (λ h. IfOk found (λ f. IfSome f (λ r. AreRanked h r.items.items)))
    (c.of-versions.ensures.ops ∙ c.indexed.ensures) c.ranked_within.ensures.ranked in
    subst (λ r. IfOk r (λ r. AreRanked c.args.replica.now.ops r.items.items)) (sym c.listed.ensures)
    (list_made (λ r. AreRanked c.args.replica.now.ops r.items.items) found ranked)

pub returns-clause-err : goal.returns-clause-err
returns-clause-err c =
    let found = c.ranked_within.result in
    let more = subst (λ h. IfOk found (λ f. IfNone f (HasMoreVisible h 1000)))
    (c.of-versions.ensures.ops ∙ c.indexed.ensures) c.ranked_within.ensures.more in
    subst (λ r. IfErr r (RefusesHistory c.args.replica.now.ops)) (sym c.listed.ensures)
    (list_refused c.args.replica.now.ops found more)
