-- What a step of a replica does (this project's choice, over causal delivery).
use Rattle.std.specs.Prelude.{◌≡◌, [], ◌∷◌, ◌++◌}
use Rattle.gf_ops.specs.declared.op.Op.{Op}
use Rattle.gf_ops.specs.declared.op.OpId.{OpId}
use Rattle.gf_ops.specs.declared.faults.OpFault.{OpFault}
use Rattle.gf_ops.specs.Limits.{IsInRange}
use Rattle.gf_ops.specs.Accepted.{IsAccepted, IsRefused}
use Rattle.gf_causal.specs.Ready.{NoneIsReady}
use Rattle.gf_causal.specs.HeldOperations.{Adds, IsFirstReady}
use Rattle.gf_site.specs.declared.replica.Step.{Step}
use Rattle.gf_site.specs.declared.replica.Step.TheVariants as step
use Rattle.gf_site.specs.ReplicaState.{ReplicaState}

-- the replica took out a, which of the held operations that were ready had the least id
pub record TakesOut (old : ReplicaState) (a : Op) (new : ReplicaState) : Type 0 where
  pub first : IsFirstReady old.held old.ops a
  pub in_range : IsInRange a
  pub taken : Adds new.held a old.held

-- the replica took out the ready operation with the least id, which has the id i, and added it
pub record AppliesNext (old : ReplicaState) (i : OpId) (new : ReplicaState) : Type 0 where
  pub op : Op
  pub id : op.id ≡ i
  pub takes : TakesOut old op new
  pub accepted : IsAccepted old.ops op
  pub ops : new.ops ≡ old.ops ++ op ∷ []

-- the replica forgot the ready operation with the least id, which is i, since its check failed with
-- f
pub record ForgetsNext (old : ReplicaState) (i : OpId) (f : OpFault) (new : ReplicaState)
    : Type 0 where
  pub op : Op
  pub id : op.id ≡ i
  pub takes : TakesOut old op new
  pub refused : IsRefused old.ops op f
  pub ops : new.ops ≡ old.ops

-- what a step did
abbrev pub StepsOnce : ReplicaState → Step → ReplicaState → Type 0
StepsOnce old (step.Applied i) new = AppliesNext old i new
StepsOnce old (step.Dropped i f) new = ForgetsNext old i f new
StepsOnce old step.Idle new = NoneIsReady old.ops old.held × (new ≡ old)

-- the replica has a ready operation that its history accepts
pub record HasNext (x : ReplicaState) : Type 0 where
  pub op : Op
  pub first : IsFirstReady x.held x.ops op
  pub accepted : IsAccepted x.ops op
