-- What groups of positions in a history stand for (this project's choice).
use Rattle.std.specs.Prelude.{ℕ, List, [], filter_map, option_map, Option, slice_get}
use Rattle.std.specs.List.{fold}
use Rattle.std.specs.BTreeSet.{insert_key}
use Rattle.gf_ops.specs.declared.op.Op.{Op}
use Rattle.gf_ops.specs.declared.op.OpId.{OpId}
use Rattle.gf_ops.specs.declared.op.ObjectId.{ObjectId}
use Rattle.gf_ops.specs.OperationOrder.{id_cmp}
use Rattle.gf_groups.specs.declared.group.Group.{Group}

-- the id of the operation at the position k
abbrev pub id_at : List Op → ℕ → Option OpId
id_at h k = option_map (λ (a : Op). a.id) (slice_get h k)

-- the ids of the operations at the positions g
abbrev pub ids_at : List Op → List ℕ → List OpId
ids_at h g = filter_map (id_at h) g

-- the ids of the operations at the positions g, rising
abbrev pub rising_ids : List Op → List ℕ → List OpId
rising_ids h g = fold (insert_key id_cmp) [] (ids_at h g)

-- the group of the operations at the positions g, which are on the object o
abbrev pub group_at : List Op → ObjectId → List ℕ → Group
group_at h o g = record { object = o; ops = rising_ids h g }
