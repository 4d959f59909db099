-- The statuses of objects, as they are kept (this project's choice).
use Rattle.std.specs.Prelude.{◌≡◌, List, AllPairs, Contains}
use Rattle.std.specs.declared.cmp.Ordering.TheVariants.{Less}
use Rattle.gf_ops.specs.declared.op.Op.{Op}
use Rattle.gf_ops.specs.OperationOrder.{id_cmp}
use Rattle.gf_status.specs.declared.objects.ObjectStatus.{ObjectStatus}
use Rattle.gf_status.specs.ObjectStatuses.{IsObjectStatus}

-- the object of s has a lesser id than that of t
abbrev pub IsBefore : ObjectStatus → ObjectStatus → Type 0
IsBefore s t = id_cmp s.object.0 t.object.0 ≡ Less

-- the statuses are those of some objects of h, rising by id
pub record AreKept (h : List Op) (ss : List ObjectStatus) : Type 0 where
  pub each : (s : ObjectStatus) → Contains ss s → IsObjectStatus h s
  pub rising : AllPairs IsBefore ss
