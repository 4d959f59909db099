use Rattle.std.proofs.Common.{refl, get_or}
use Rattle.std.proofs.lemmas.Result.{IfOk-weaker}
use Rattle.gf_classes.proofs.KindLemmas.{firsts_more, met_from}
use Rattle.gf_classes.proofs.direct.met.Goals as goal

pub loop-run-preserved : goal.loop-run-preserved
loop-run-preserved c =
    let qs = c.runs-run-items.result.now in
    firsts_more c.args.kinds.now qs c.loop-run.run-index
    (get_or qs c.loop-run.run-index _) _ c.loop-run.runs.items c.push.new.self.items
    c.first_from.result c.first_from-in-loop-run.result c.loop-run-test.true refl
    c.first_from.ensures c.first_from-in-loop-run.ensures c.in_ok-push.ensures.items
    c.loop-run.invariant

pub returns : goal.returns
returns c = IfOk-weaker c.of_runs.result _ _ (λ row has. met_from c.args.kinds.now
    c.runs-run-items.result.now c.loop-run.runs.items c.loop-run.run-index c.args.ranks.now row
    c.loop-run-test.false c.runs-run-items.ensures c.loop-run.invariant has)
    c.of_runs.ensures.has
