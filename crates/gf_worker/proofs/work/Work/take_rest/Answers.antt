use Rattle.gf_worker.proofs.HearLemmas.{continues_trans}
use Rattle.gf_worker.proofs.work.Work.take_rest.Goals as goal

pub loop-preserved : goal.loop-preserved
loop-preserved g c = continues_trans c.args.self.now c.loop.self c.step_all.new.self
    c.loop.invariant
    (continues_trans c.loop.self c.take_round.new.self c.step_all.new.self c.take_round.ensures
    c.step_all.ensures.continues)

pub returns-then-all_ended-clause-continues : goal.returns-then-all_ended-clause-continues
returns-then-all_ended-clause-continues g c = continues_trans c.args.self.now c.loop.self
    c.step_all.new.self c.loop.invariant (continues_trans c.loop.self c.take_round.new.self
    c.step_all.new.self c.take_round.ensures c.step_all.ensures.continues)
