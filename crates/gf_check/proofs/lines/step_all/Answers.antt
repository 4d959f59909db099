use Rattle.gf_check.proofs.SteppingLemmas.{step_applied, step_dropped, steps_end}
use Rattle.gf_check.proofs.lines.step_all.Goals as goal

pub loop-id-preserved-in-Ok-Applied : goal.loop-id-preserved-in-Ok-Applied
loop-id-preserved-in-Ok-Applied c = λ editor bytes left s.
    step_applied editor bytes left c.loop-id.replica c.step.new.self c.loop-id.telling
    (c.loop-id.invariant editor bytes left s) _ c.recall_state.ensures.held
    (rw c.in-Ok-Applied.field-0-is at c.in-Ok-Applied.ensures.ok)

pub loop-id-preserved : goal.loop-id-preserved
loop-id-preserved c = λ editor bytes left s.
    step_dropped editor bytes left c.loop-id.replica c.step.new.self c.loop-id.telling
    (c.loop-id.invariant editor bytes left s) c.in-Ok-Dropped.id c.in-Ok-Dropped.fault
    (rw c.in-Ok-Dropped.field-0-is at c.in-Ok-Dropped.ensures.ok)
    c.recall_state.ensures.accepted c.recall_state.ensures.valid c.tell_drop.new.telling
    c.in_ok-tell_drop-in-Ok-Dropped.ensures

pub returns-in-Ok-Idle : goal.returns-in-Ok-Idle
returns-in-Ok-Idle c = λ editor bytes left s.
    steps_end editor bytes left c.loop-id.replica c.step.new.self c.loop-id.telling
    (c.loop-id.invariant editor bytes left s)
    c.recall_state.ensures.accepted c.recall_state.ensures.valid
    (rw c.in-Ok-Idle.field-0-is at c.in-Ok-Idle.ensures.ok)
