-- The objects of a history (this project's choice).
use Rattle.std.specs.Prelude.{◌↔◌, List, Contains}
use Rattle.std.specs.List.Sorted.{IsStrictlySortedBy}
use Rattle.gf_ops.specs.declared.op.Op.{Op}
use Rattle.gf_ops.specs.declared.op.OpId.{OpId}
use Rattle.gf_ops.specs.declared.op.ObjectId.{ObjectId}
use Rattle.gf_ops.specs.OperationOrder.{id_cmp}
use Rattle.gf_groups.specs.Versions.{IsMade}

-- the ids are those of all objects of h, by site and then by number
pub record AreObjects (h : List Op) (ids : List OpId) : Type 0 where
  pub exactly : (o : ObjectId) → Contains ids o.0 ↔ IsMade h o
  pub rising : IsStrictlySortedBy id_cmp ids
