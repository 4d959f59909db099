-- Where an operation stands in a history (this project's choice).
use Rattle.std.specs.Prelude.{◌≡◌, ℕ, List, Some, slice_get}
use Rattle.gf_ops.specs.declared.op.Op.{Op}
use Rattle.gf_ops.specs.declared.op.OpId.{OpId}

-- the operation of h at the position k has the id i
pub record StandsAt (h : List Op) (i : OpId) (k : ℕ) : Type 0 where
  pub op : Op
  pub at : slice_get h k ≡ Some op
  pub id : op.id ≡ i
