-- When a table stands for a history: it has the positions of the operations on each object.
use Rattle.std.specs.Prelude.{◌≡◌, ℕ, List, [], unwrap_or}
use Rattle.std.specs.BTreeMap.{is_at}
use Rattle.std.specs.Map.{lookup}
use Rattle.gf_ops.specs.declared.op.Op.{Op}
use Rattle.gf_ops.specs.declared.op.ObjectId.{ObjectId}
use Rattle.gf_table.specs.Positions.{object_cmp, positions_on}

-- the positions that the table has for the object o
abbrev pub positions_of : List (ObjectId × List ℕ) → ObjectId → List ℕ
positions_of t o = unwrap_or (lookup (is_at (object_cmp o)) t) []

-- the table has for each object the positions of the operations of h on it
abbrev pub StandsFor : List Op → List (ObjectId × List ℕ) → Type 0
StandsFor h t = (o : ObjectId) → positions_of t o ≡ positions_on h o
