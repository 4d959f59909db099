use Rattle.std.proofs.Common.{sym, ◌∙◌}
use Rattle.gf_worker.proofs.StepLemmas.{continues_stepping, continues_short, idle_step, fewer_held}
use Rattle.gf_worker.proofs.work.Work.step.Goals as goal

pub returns-in_default-clause-continues : goal.returns-in_default-clause-continues
returns-in_default-clause-continues c = continues_short c.args.self.now c.step.new.self
    c.in_default.ensures.same

pub returns-clause-continues : goal.returns-clause-continues
returns-clause-continues c = continues_stepping c.args.self.now c.in-Ok.step c.step.new.self
    c.recall_state.ensures.number c.recall_state.ensures.accepted c.recall_state.ensures.valid c.in-Ok.ensures.ok

pub returns-clause-idle : goal.returns-clause-idle
returns-clause-idle c = λ e s. idle_step c.args.self.now.site c.in-Ok.step c.step.new.self
    (sym c.goes_on.ensures ∙ e) c.in-Ok.ensures.ok

pub returns-clause-fewer : goal.returns-clause-fewer
returns-clause-fewer c = λ e. fewer_held c.args.self.now.site c.in-Ok.step c.step.new.self
    (sym c.goes_on.ensures ∙ e) c.in-Ok.ensures.ok
