use Rattle.gf_json.specs.declared.scripts.Command.TheVariants.{Await}
use Rattle.gf_worker.proofs.AwaitLemmas.{plays_await, plays_short}
use Rattle.gf_worker.proofs.work.Work.play_await.Goals as goal

pub returns-then-self : goal.returns-then-self
returns-then-self g c = plays_short c.args.self.now c.judge-cause.new.self c.args.number
    (Await c.args.id) c.judge-cause.ensures.continues c.if-self.true

pub returns : goal.returns
returns g c =
    let j = c.judge-cause in
    plays_await c.args.self.now j.new.self c.report_refusal.new.report c.args.number c.args.id
    j.result c.report_refusal.result j.ensures.continues c.if-self.false
    (j.ensures.judges c.if-self.false) c.report_refusal.ensures
