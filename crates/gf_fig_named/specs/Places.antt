-- Where the versions of each object stand in a list (this project's choice).
use Rattle.std.specs.Prelude.{◌≡◌, ◌<◌, ℕ, List, Contains, slice_index_or}
use Rattle.gf_shape.specs.declared.any_shape.AnyShape.{AnyShape}
use Rattle.gf_ops.specs.declared.op.ObjectId.{ObjectId}
use Rattle.gf_versions.specs.declared.placed.Placed.{Placed}
use Rattle.gf_table.specs.Standing.{positions_of}

-- the table has for each object places before n, and for each item before n its own place
pub record ArePlaces (items : List (Placed AnyShape)) (n : ℕ)
    (table : List (ObjectId × List ℕ)) : Type 0 where
  pub within : (o : ObjectId) (k : ℕ) → Contains (positions_of table o) k → k < n
  pub each : (k : ℕ) (i : Placed AnyShape) → k < n → i ≡ slice_index_or items k i
      → Contains (positions_of table i.key.object) k
