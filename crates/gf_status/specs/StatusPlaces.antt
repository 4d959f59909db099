-- Where the status of an object stands among others. No public clause cites this module.
use Rattle.std.specs.Prelude.{◌≡◌, ℕ, ◌<◌, ◌≤◌, List, length, slice_index_or}
use Rattle.std.specs.declared.cmp.Ordering.TheVariants.{Less, Greater}
use Rattle.gf_ops.specs.declared.op.ObjectId.{ObjectId}
use Rattle.gf_ops.specs.OperationOrder.{id_cmp}
use Rattle.gf_status.specs.declared.objects.ObjectStatus.{ObjectStatus}

-- the status at i is that of the object o
pub record IsFoundAt (ss : List ObjectStatus) (o : ObjectId) (i : ℕ) : Type 0 where
  pub inside : i < length ss
  pub is : (d : ObjectStatus) → (slice_index_or ss i d).object ≡ o

-- the objects before i have lesser ids than o, and those from i on have greater ones
pub record IsMissingAt (ss : List ObjectStatus) (o : ObjectId) (i : ℕ) : Type 0 where
  pub within : i ≤ length ss
  pub front : (k : ℕ) (d : ObjectStatus) → k < i
      → id_cmp (slice_index_or ss k d).object.0 o.0 ≡ Less
  pub back : (k : ℕ) (d : ObjectStatus) → i ≤ k → k < length ss
      → id_cmp (slice_index_or ss k d).object.0 o.0 ≡ Greater
