-- The direct classes of what operations bring, by their positions. No public clause cites this
-- module.
use Rattle.std.specs.Prelude.{◌≡◌, ◌↔◌, ◌⊎◌, ℕ, List, Contains, Option, Some, slice_get}
use Rattle.gf_ops.specs.declared.op.Op.{Op}
use Rattle.gf_ops.specs.declared.op.OpId.{OpId}
use Rattle.gf_ops.specs.declared.op.ObjectId.{ObjectId}
use Rattle.gf_ops.specs.Aims.{Brings}
use Rattle.gf_table.specs.Positions.{positions_on}
use Rattle.gf_classes.specs.Direct.{DirectState, AreDirect, class_at}

-- s has the classes of the operations of h at the positions us, which are all those on one object
pub record AreGiven (h : List Op) (us : List ℕ) (s : DirectState) : Type 0 where
  pub object : ObjectId
  pub positions : us ≡ positions_on h object
  pub direct : AreDirect h us s

-- k is the class of the operation at the position p
pub record IsClassOf (us : List ℕ) (s : DirectState) (p k : ℕ) : Type 0 where
  pub index : ℕ
  pub at : slice_get us index ≡ Some p
  pub class : class_at s index ≡ Some k

-- k is the class of an operation that has the id
pub record IsNamed (h : List Op) (us : List ℕ) (s : DirectState) (id : OpId)
    (k : ℕ) : Type 0 where
  pub position : ℕ
  pub op : Op
  pub at : slice_get h position ≡ Some op
  pub named : op.id ≡ id
  pub class : IsClassOf us s position k

-- k is the class of an operation that has one of the ids
pub record IsAmong (h : List Op) (us : List ℕ) (s : DirectState) (ids : List OpId)
    (k : ℕ) : Type 0 where
  pub position : ℕ
  pub op : Op
  pub at : slice_get h position ≡ Some op
  pub among : Contains ids op.id
  pub class : IsClassOf us s position k

-- new has what old has, and the class of the operation that has the id
abbrev pub AddsNamed : List Op → List ℕ → DirectState → OpId → List ℕ → List ℕ → Type 0
AddsNamed h us s id old new = (k : ℕ) → Contains new k ↔ (Contains old k ⊎ IsNamed h us s id k)

-- own has the class, if it is one, and those of the operations that have one of the ids
abbrev pub AreOwn : List Op → List ℕ → DirectState → Option ℕ → List OpId → List ℕ → Type 0
AreOwn h us s class ids own =
    (k : ℕ) → Contains own k ↔ ((class ≡ Some k) ⊎ IsAmong h us s ids k)

-- k is the class of what the operation at the position p brings
pub record Owns (h : List Op) (us : List ℕ) (s : DirectState) (p k : ℕ) : Type 0 where
  pub op : Op
  pub at : slice_get h p ≡ Some op
  pub first : Op
  pub brings : Brings h op first
  pub position : ℕ
  pub at_first : slice_get h position ≡ Some first
  pub class : IsClassOf us s position k
