-- Which operations hide an object, and behind which of them nothing shows or hides it (this
-- project's choice).
use Rattle.std.specs.Prelude.{◌≡◌, ◌↔◌, false, List, Some, Contains, IsSome}
use Rattle.std.specs.List.Sorted.{IsStrictlySortedBy}
use Rattle.gf_ops.specs.declared.op.Op.{Op}
use Rattle.gf_ops.specs.declared.op.OpId.{OpId}
use Rattle.gf_ops.specs.declared.op.ObjectId.{ObjectId}
use Rattle.gf_ops.specs.declared.change.Attr.TheVariants as attr
use Rattle.gf_ops.specs.declared.change.Value.TheVariants as value
use Rattle.gf_ops.specs.Attribute.{object_of, value_given}
use Rattle.gf_ops.specs.OperationOrder.{Precedes, id_cmp}

-- a hides its object, or those versions that it is aimed at
abbrev pub Hides : Op → Type 0
Hides a = value_given a attr.Shown ≡ Some (value.Shown false)

-- a is an operation of h that shows or hides the object o
pub record ShowsOrHides (h : List Op) (o : ObjectId) (a : Op) : Type 0 where
  pub contained : Contains h a
  pub object : object_of a ≡ o
  pub sets : IsSome (value_given a attr.Shown)

-- a hides the object o, and no operation that shows or hides o comes after a
pub record HidesLast (h : List Op) (o : ObjectId) (a : Op) : Type 0 where
  pub contained : Contains h a
  pub object : object_of a ≡ o
  pub hides : Hides a
  pub last : (b : Op) → ShowsOrHides h o b → ¬ (Precedes a b)

-- the operation under the id i is a last hiding of the object o
pub record HidesUnder (h : List Op) (o : ObjectId) (i : OpId) : Type 0 where
  pub op : Op
  pub id : op.id ≡ i
  pub hides : HidesLast h o op

-- the ids of all last hidings of the object o, rising. Of two of these, neither knew the other
pub record AreLastHidings (h : List Op) (o : ObjectId) (ids : List OpId) : Type 0 where
  pub exactly : (i : OpId) → Contains ids i ↔ HidesUnder h o i
  pub rising : IsStrictlySortedBy id_cmp ids
