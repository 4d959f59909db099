-- The versions of an object (maximal compatible groups, Sun and Chen, ACM TOCHI 9(1), 2002).
use Rattle.std.specs.Prelude.{◌≡◌, List, Contains, IsSome}
use Rattle.std.specs.List.Sorted.{IsStrictlySortedBy}
use Rattle.gf_ops.specs.declared.op.Op.{Op}
use Rattle.gf_ops.specs.declared.op.OpId.{OpId}
use Rattle.gf_ops.specs.declared.op.ObjectId.{ObjectId}
use Rattle.gf_ops.specs.Attribute.{made_kind, object_of}
use Rattle.gf_ops.specs.Conflict.{Conflict}
use Rattle.gf_ops.specs.HasOperation.{HasOn}
use Rattle.gf_ops.specs.OperationOrder.{id_cmp}

-- a is an operation of h that the group g has
pub record IsMember (h : List Op) (g : List OpId) (a : Op) : Type 0 where
  pub contained : Contains h a
  pub grouped : Contains g a.id

-- by the relation C, a conflicts with a member of the group
pub record ConflictsWithin (C : Op → Op → Type 0) (h : List Op) (g : List OpId)
    (a : Op) : Type 0 where
  pub member : Op
  pub is_member : IsMember h g member
  pub conflict : C a member

-- the rising ids g are operations of h on the object o, whose creation is in h. No two of them
-- conflict by the relation C. Each other operation on o conflicts with one of them
pub record IsLargestGroup (C : Op → Op → Type 0) (h : List Op) (o : ObjectId)
    (g : List OpId) : Type 0 where
  pub rising : IsStrictlySortedBy id_cmp g
  pub created : HasOn h o o.0
  pub makes : IsSome (made_kind created.op.change)
  pub members : (i : OpId) → Contains g i → HasOn h o i
  pub compatible : (a b : Op) → IsMember h g a → IsMember h g b → ¬ (C a b)
  pub largest : (a : Op) → Contains h a → object_of a ≡ o → ¬ (Contains g a.id)
      → ConflictsWithin C h g a

-- the group g is a version of the object o of h
abbrev pub IsVersion : List Op → ObjectId → List OpId → Type 0
IsVersion h o g = IsLargestGroup (Conflict h) h o g
