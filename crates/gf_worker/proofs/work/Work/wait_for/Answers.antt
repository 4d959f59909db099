use Rattle.std.proofs.Common.{sym, ◌∙◌}
use Rattle.gf_worker.proofs.HearLemmas.{continues_trans}
use Rattle.gf_worker.proofs.work.Work.wait_for.Goals as goal

pub loop-preserved : goal.loop-preserved
loop-preserved g c = continues_trans c.args.self.now c.loop.self c.step_all.new.self
    c.loop.invariant
    (continues_trans c.loop.self c.take_round.new.self c.step_all.new.self c.take_round.ensures
    c.step_all.ensures.continues)

pub returns-then-self-clause-continues : goal.returns-then-self-clause-continues
returns-then-self-clause-continues g c = continues_trans c.args.self.now c.loop.self
    c.step_all.new.self c.loop.invariant (continues_trans c.loop.self c.take_round.new.self
    c.step_all.new.self c.take_round.ensures c.step_all.ensures.continues)

pub returns-then-has-clause-continues : goal.returns-then-has-clause-continues
returns-then-has-clause-continues g c = continues_trans c.args.self.now c.loop.self
    c.step_all.new.self c.loop.invariant (continues_trans c.loop.self c.take_round.new.self
    c.step_all.new.self c.take_round.ensures c.step_all.ensures.continues)

pub returns-then-all_ended-clause-continues : goal.returns-then-all_ended-clause-continues
returns-then-all_ended-clause-continues g c = continues_trans c.args.self.now c.loop.self
    c.step_all.new.self c.loop.invariant (continues_trans c.loop.self c.take_round.new.self
    c.step_all.new.self c.take_round.ensures c.step_all.ensures.continues)

pub returns-then-all_ended-clause-waits : goal.returns-then-all_ended-clause-waits
returns-then-all_ended-clause-waits g c = (
  c.if-self.false,
  c.has.ensures.no c.if-has.false,
  sym c.all_ended.ensures ∙ c.if-all_ended.true,
  c.step_all.ensures.idle c.if-self.false,
)
