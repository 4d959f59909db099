use Rattle.gf_causal.proofs.BoxLemmas.{pushed_rising}
use Rattle.gf_causal.proofs.by_id.OpsById.insert.Goals as goal

pub returns-in_ok-push-in-None-clause-rising : goal.returns-in_ok-push-in-None-clause-rising
returns-in_ok-push-in-None-clause-rising c =
    pushed_rising c.self.inside.alone.items c.self.inside.many c.args.op c.push.new.self.items
    c.in_ok-push-in-None.ensures.items
