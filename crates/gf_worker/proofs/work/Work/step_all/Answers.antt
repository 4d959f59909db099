use Rattle.gf_worker.proofs.HearLemmas.{continues_trans}
use Rattle.gf_worker.proofs.work.Work.step_all.Goals as goal

pub loop-preserved : goal.loop-preserved
loop-preserved c = continues_trans c.args.self.now c.loop.self c.step.new.self c.loop.invariant
    c.step.ensures.continues

pub returns-clause-continues : goal.returns-clause-continues
returns-clause-continues c = continues_trans c.args.self.now c.loop.self c.step.new.self
    c.loop.invariant c.step.ensures.continues

pub returns-clause-idle : goal.returns-clause-idle
returns-clause-idle c = c.step.ensures.idle c.loop-test.false
