-- The order of ids as a set's one list (this project's choice).
use Rattle.std.specs.Prelude.{◌↔◌, List, Contains}
use Rattle.std.specs.List.Sorted.{IsStrictlySortedBy}
use Rattle.gf_ops.specs.declared.op.OpId.{OpId}
use Rattle.gf_ops.specs.OperationOrder.{id_cmp}

-- found are the same ids as given, by site and then by number, each once
pub record IsRisingOf (given found : List OpId) : Type 0 where
  pub exactly : (i : OpId) → Contains found i ↔ Contains given i
  pub rising : IsStrictlySortedBy id_cmp found
