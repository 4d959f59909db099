use Rattle.std.proofs.Common.{ap, refl}
use Rattle.gf_site.specs.ReplicaState.{ReplicaState}
use Rattle.gf_replay.proofs.GrowthLemmas.{grows_applied, grows_on, grows_same}
use Rattle.gf_replay.proofs.TakingLemmas.{applied_shorter, dropped_ready, idle_steps, keeps_applied}
use Rattle.gf_replay.proofs.taking.step_all.Goals as goal

pub loop-id-init : goal.loop-id-init
loop-id-init c = record {
  keeps = record { same = λ a. (λ i. i, λ i. i); others = λ others. others };
  grows = grows_same c.args.replica.now.ops c.args.replica.now.ops refl;
}

pub loop-id-smaller : goal.loop-id-smaller
loop-id-smaller c = applied_shorter c.loop-id.replica c.step.new.self _
    (rw c.in-Ok-Applied.field-0-is at c.in-Ok-Applied.ensures.ok)

pub loop-id-preserved : goal.loop-id-preserved
loop-id-preserved c =
    let applies = rw c.in-Ok-Applied.field-0-is at c.in-Ok-Applied.ensures.ok in
    record {
      keeps = keeps_applied c.args.replica.now c.loop-id.replica c.step.new.self _
          c.recall_state.ensures.held c.loop-id.invariant.keeps applies;
      grows = grows_applied c.args.replica.now.ops c.loop-id.replica c.step.new.self _
          c.loop-id.invariant.grows applies;
    }

pub returns-in-Ok-Dropped-clause-err : goal.returns-in-Ok-Dropped-clause-err
returns-in-Ok-Dropped-clause-err c = dropped_ready c.args.replica.now c.loop-id.replica
    c.step.new.self _ _ c.loop-id.invariant.keeps c.recall_state.ensures.accepted c.recall_state.ensures.valid
    (rw c.in-Ok-Dropped.field-0-is at c.in-Ok-Dropped.ensures.ok)

pub returns-in-Ok-Idle-clause-ok : goal.returns-in-Ok-Idle-clause-ok
returns-in-Ok-Idle-clause-ok c = idle_steps c.args.replica.now c.loop-id.replica c.step.new.self
    c.loop-id.invariant.keeps c.recall_state.ensures.accepted c.recall_state.ensures.valid
    (rw c.in-Ok-Idle.field-0-is at c.in-Ok-Idle.ensures.ok)

pub returns-in-Ok-Idle-clause-grows : goal.returns-in-Ok-Idle-clause-grows
returns-in-Ok-Idle-clause-grows c =
    let idle = rw c.in-Ok-Idle.field-0-is at c.in-Ok-Idle.ensures.ok in
    grows_on c.args.replica.now.ops c.loop-id.replica.ops c.step.new.self.ops
    c.loop-id.invariant.grows
    (grows_same c.loop-id.replica.ops c.step.new.self.ops
    (ap (λ (x : ReplicaState). x.ops) idle.1))
