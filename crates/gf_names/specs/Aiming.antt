-- What an aim at operations holds: their ids, with what they aim at (this project's choice).
use Rattle.std.specs.Prelude.{◌≡◌, ◌↔◌, ◌⊎◌, List, Contains}
use Rattle.std.specs.List.Sorted.{IsStrictlySortedBy}
use Rattle.gf_ops.specs.declared.op.Op.{Op}
use Rattle.gf_ops.specs.declared.op.OpId.{OpId}
use Rattle.gf_ops.specs.Attribute.{aim_of}
use Rattle.gf_ops.specs.OperationOrder.{id_cmp}

-- the operation of h under j aims at i
pub record AimsAtId (h : List Op) (j i : OpId) : Type 0 where
  pub op : Op
  pub contained : Contains h op
  pub id : op.id ≡ j
  pub aimed : Contains (aim_of op) i

-- i is j, or the operation under j aims at it
abbrev pub IsBrought : List Op → OpId → OpId → Type 0
IsBrought h j i = (i ≡ j) ⊎ AimsAtId h j i

-- i is one of the ids, or the operation under one of them aims at it
pub record IsBroughtFrom (h : List Op) (ids : List OpId) (i : OpId) : Type 0 where
  pub from : OpId
  pub listed : Contains ids from
  pub brought : IsBrought h from i

-- the rising aim holds the ids and what the operations under them aim at, and nothing else
pub record AreBroughtFrom (h : List Op) (ids aim : List OpId) : Type 0 where
  pub exactly : (i : OpId) → Contains aim i ↔ IsBroughtFrom h ids i
  pub rising : IsStrictlySortedBy id_cmp aim
