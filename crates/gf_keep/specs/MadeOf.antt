-- What a kept version becomes behind the operations that keep it (this project's choice).
use Rattle.std.specs.Prelude.{◌≡◌, ◌↔◌, ◌⊎◌, List, Contains}
use Rattle.std.specs.List.Sorted.{IsStrictlySortedBy}
use Rattle.gf_ops.specs.declared.op.Op.{Op}
use Rattle.gf_ops.specs.declared.op.OpId.{OpId}
use Rattle.gf_ops.specs.OperationOrder.{id_cmp}
use Rattle.gf_groups.specs.declared.group.Group.{Group}
use Rattle.gf_keep.specs.declared.keep.Keep.{Keep}
use Rattle.gf_keep.specs.Keeping.{IsKept, IsShowing, hiding}

-- x is one of the new operations, and hides the object that k names
pub record IsHide (k : Keep) (new : List Op) (x : Op) : Type 0 where
  pub contained : Contains new x
  pub change : x.change ≡ hiding k.object

-- x is one of the new operations, and shows the version of the group g of h
pub record IsShow (h : List Op) (new : List Op) (g : Group) (x : Op) : Type 0 where
  pub contained : Contains new x
  pub change : IsShowing h g x.change

-- behind the new operations, the kept version g of h has become the group f. With its operations
-- it has the one that hides the object, and the one that shows it
pub record Becomes (h : List Op) (k : Keep) (new : List Op) (g f : Group) : Type 0 where
  pub hide : Op
  pub hides : IsHide k new hide
  pub show : Op
  pub shows : IsShow h new g show
  pub object : f.object ≡ g.object
  pub exactly : (i : OpId) → Contains f.ops i
      ↔ (Contains g.ops i ⊎ ((i ≡ hide.id) ⊎ (i ≡ show.id)))
  pub rising : IsStrictlySortedBy id_cmp f.ops

-- f is what a kept version of h has become behind the new operations
pub record IsKeptOn (h : List Op) (k : Keep) (new : List Op) (f : Group) : Type 0 where
  pub group : Group
  pub kept : IsKept h k group
  pub becomes : Becomes h k new group f

-- the kept version g of h has become some group
pub record GoesOn (h : List Op) (k : Keep) (new : List Op) (g : Group) : Type 0 where
  pub group : Group
  pub becomes : Becomes h k new g group
