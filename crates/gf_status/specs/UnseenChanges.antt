-- Which operations changed what is not shown, and knew nothing of what hides it (this project's
-- choice).
use Rattle.std.specs.Prelude.{◌≡◌, ◌↔◌, List, None, Contains}
use Rattle.std.specs.List.Sorted.{IsStrictlySortedBy}
use Rattle.gf_ops.specs.declared.op.Op.{Op}
use Rattle.gf_ops.specs.declared.op.OpId.{OpId}
use Rattle.gf_ops.specs.declared.op.ObjectId.{ObjectId}
use Rattle.gf_ops.specs.declared.change.Attr.TheVariants as attr
use Rattle.gf_ops.specs.Attribute.{object_of, value_given}
use Rattle.gf_ops.specs.Conflict.{Conflict}
use Rattle.gf_ops.specs.OperationOrder.{IsConcurrent, Precedes, id_cmp}
use Rattle.gf_groups.specs.declared.group.Group.{Group}
use Rattle.gf_visible.specs.ShownVersions.{IsVisibleGroup}
use Rattle.gf_status.specs.Hidings.{Hides, ShowsOrHides}

-- b hides the object o, and a does not conflict with b. Of the operations that show or hide o, and
-- with which a does not conflict either, none comes after b
pub record HidesBeside (h : List Op) (o : ObjectId) (a b : Op) : Type 0 where
  pub setter : ShowsOrHides h o b
  pub hides : Hides b
  pub beside : ¬ (Conflict h a b)
  pub last : (c : Op) → ShowsOrHides h o c → ¬ (Conflict h a c) → ¬ (Precedes b c)

-- no visible version of the object o has a
abbrev pub IsNotShown : List Op → ObjectId → Op → Type 0
IsNotShown h o a = (g : Group) → g.object ≡ o → IsVisibleGroup h g → ¬ (Contains g.ops a.id)

-- a changes the object o, and neither shows nor hides it. No visible version has a. Of a and a last
-- hiding beside a, neither comes before the other
pub record ChangesUnseen (h : List Op) (o : ObjectId) (a : Op) : Type 0 where
  pub contained : Contains h a
  pub object : object_of a ≡ o
  pub other : value_given a attr.Shown ≡ None
  pub unseen : IsNotShown h o a
  pub hiding : Op
  pub beside : HidesBeside h o a hiding
  pub concurrent : IsConcurrent a hiding

-- the operation under the id i changes of the object o what is not shown, and knew nothing of what
-- hides it
pub record ChangesUnder (h : List Op) (o : ObjectId) (i : OpId) : Type 0 where
  pub op : Op
  pub id : op.id ≡ i
  pub changes : ChangesUnseen h o op

-- the ids of all operations that change of the object o what is not shown, and knew nothing of what
-- hides it, rising
pub record AreUnseen (h : List Op) (o : ObjectId) (ids : List OpId) : Type 0 where
  pub exactly : (i : OpId) → Contains ids i ↔ ChangesUnder h o i
  pub rising : IsStrictlySortedBy id_cmp ids
