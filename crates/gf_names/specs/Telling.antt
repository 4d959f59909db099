-- What tells a group of operations from others: its last conflicts with them (this project's
-- choice; conflict after Sun and Chen, ACM TOCHI 9(1), 2002).
use Rattle.std.specs.Prelude.{◌≡◌, ◌↔◌, ◌≤◌, List, Contains}
use Rattle.std.specs.List.Sorted.{IsStrictlySortedBy}
use Rattle.gf_ops.specs.declared.op.Op.{Op}
use Rattle.gf_ops.specs.declared.op.OpId.{OpId}
use Rattle.gf_ops.specs.DirectConflict.{DirectConflict}
use Rattle.gf_ops.specs.OperationOrder.{id_cmp}
use Rattle.gf_ops.specs.Version.{IsMember}

-- a is the last operation of its site in the group g that conflicts directly with x
pub record IsLastAgainst (h : List Op) (g : List OpId) (x a : Op) : Type 0 where
  pub member : IsMember h g a
  pub conflict : DirectConflict x a
  pub last : (b : Op) → IsMember h g b → b.id.site ≡ a.id.site → DirectConflict x b
      → b.id.seq ≤ a.id.seq

-- i is the id of such an operation against one of the others
pub record IsTelling (h : List Op) (g : List OpId) (Others : Op → Type 0)
    (i : OpId) : Type 0 where
  pub op : Op
  pub id : op.id ≡ i
  pub against : Op
  pub other : Others against
  pub last : IsLastAgainst h g against op

-- the rising ids are those that tell the group g from the others
pub record AreTelling (h : List Op) (g : List OpId) (Others : Op → Type 0)
    (ids : List OpId) : Type 0 where
  pub exactly : (i : OpId) → Contains ids i ↔ IsTelling h g Others i
  pub rising : IsStrictlySortedBy id_cmp ids
