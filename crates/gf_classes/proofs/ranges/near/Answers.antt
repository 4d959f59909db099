use Rattle.std.proofs.lemmas.Result.{IfOk-weaker}
use Rattle.gf_classes.proofs.RangeLemmas.{near_from}
use Rattle.gf_classes.proofs.ranges.near.Goals as goal

pub returns : goal.returns
returns c = IfOk-weaker c.of_runs.result _ _ (λ d h. near_from
    c.in_ok-runs.runs.items d h c.args.setters.now c.args.x.now c.runs.result.now
    c.new-none.result c.requires.sorted c.runs.ensures c.new-none.ensures
    c.in_ok-runs.ensures) c.of_runs.ensures.has
