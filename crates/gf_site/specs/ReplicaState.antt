-- A replica as its callers see it (this project's choice).
use Rattle.std.specs.Prelude.{List, []}
use Rattle.gf_ops.specs.declared.op.Op.{Op}

-- the operations in the order of adding, and the held operations, rising by id
pub record ReplicaState : Type 0 where
  pub ops : List Op
  pub held : List Op

-- the replica that has and holds nothing
abbrev pub new_replica : ReplicaState
new_replica = record { ops = []; held = [] }
