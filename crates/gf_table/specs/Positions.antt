-- The positions of the operations on each object of a history (this project's choice).
use Rattle.std.specs.Prelude.{ℕ, Bool, false, List, filter, length, Option, Some, None, slice_get}
use Rattle.std.specs.List.{range_with_len}
use Rattle.std.specs.Ordering.{is_eq}
use Rattle.std.specs.declared.cmp.Ordering.{Ordering}
use Rattle.gf_ops.specs.declared.op.Op.{Op}
use Rattle.gf_ops.specs.declared.op.ObjectId.{ObjectId}
use Rattle.gf_ops.specs.Attribute.{object_of}
use Rattle.gf_ops.specs.OperationOrder.{id_cmp}

-- objects are ordered by their ids
abbrev pub object_cmp : ObjectId → ObjectId → Ordering
object_cmp o p = id_cmp o.0 p.0

-- the operation is there, and on the object o
abbrev pub is_on : ObjectId → Option Op → Bool
is_on o (Some a) = is_eq (object_cmp (object_of a) o)
is_on o None = false

-- the positions of the operations of h on the object o
abbrev pub positions_on : List Op → ObjectId → List ℕ
positions_on h o = filter (λ i. is_on o (slice_get h i)) (range_with_len 0 (length h))
