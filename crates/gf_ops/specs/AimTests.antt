-- Whether an aim is valid, step by step. No public clause cites this module.
use Rattle.std.specs.Prelude.{◌≡◌, ◌&&◌, ◌==◌, cond, List, [], ◌∷◌, Contains}
use Rattle.gf_ops.specs.declared.op.Op.{Op}
use Rattle.gf_ops.specs.declared.op.OpId.{OpId}
use Rattle.gf_ops.specs.Aims.{MayAimAt}
use Rattle.gf_ops.specs.Attribute.{aim_of, object_of}
use Rattle.gf_ops.specs.Conflict.{ConflictsWithBrought}
use Rattle.gf_ops.specs.DirectConflict.{DirectConflict}
use Rattle.gf_ops.specs.OperationOrder.{Precedes}

-- what is left of the ids after j was met: those behind the first, where that is j
abbrev pub after_id : List OpId → OpId → List OpId
after_id [] j = []
after_id (i ∷ is) j = cond (i.site == j.site && i.seq == j.seq) is (i ∷ is)

-- each of the ids is of the aim
abbrev pub IsWithinAim : List OpId → List OpId → Type 0
IsWithinAim ids aim = (j : OpId) → Contains ids j → Contains aim j

-- x is on the object of a and before it, and a aims at all that x aims at
pub record FitsAim (a x : Op) : Type 0 where
  pub object : object_of x ≡ object_of a
  pub before : Precedes x a
  pub within : IsWithinAim (aim_of x) (aim_of a)

-- a may aim at each of the ids
abbrev pub MayAim : List Op → Op → List OpId → Type 0
MayAim h a ids = (i : OpId) → Contains ids i → MayAimAt h a i

-- a conflicts directly with the operation of h under the id i
pub record ConflictsAt (h : List Op) (a : Op) (i : OpId) : Type 0 where
  pub op : Op
  pub contained : Contains h op
  pub id : op.id ≡ i
  pub direct : DirectConflict a op

-- a conflicts directly with an operation of h under one of the ids
pub record ConflictsWithSome (h : List Op) (a : Op) (ids : List OpId) : Type 0 where
  pub op : Op
  pub contained : Contains h op
  pub among : Contains ids op.id
  pub direct : DirectConflict a op

-- no two operations of h under these ids conflict directly
abbrev pub AreDirectlyCompatible : List Op → List OpId → Type 0
AreDirectlyCompatible h ids = (x y : Op) → Contains h x → Contains h y → Contains ids x.id
    → Contains ids y.id → ¬ (DirectConflict x y)

-- the operation of h under the id i conflicts directly with b, or with one that b aims at
pub record MemberConflicts (h : List Op) (i : OpId) (b : Op) : Type 0 where
  pub op : Op
  pub contained : Contains h op
  pub id : op.id ≡ i
  pub conflicts : ConflictsWithBrought h op b

-- an operation of h under one of the ids conflicts directly with b, or with one that b aims at
pub record AimConflicts (h : List Op) (ids : List OpId) (b : Op) : Type 0 where
  pub op : Op
  pub contained : Contains h op
  pub among : Contains ids op.id
  pub conflicts : ConflictsWithBrought h op b
