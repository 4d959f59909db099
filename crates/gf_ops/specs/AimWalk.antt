-- How a walk finds a direct conflict between the operations of two sites. No public clause cites
-- this module.
use Rattle.std.specs.Prelude.{◌≡◌, ◌≢◌, ◌⊎◌, ℕ, ◌<◌, ◌≤◌, true, List}
use Rattle.std.specs.Prelude.{Option, Some, None, length, take, slice_index_or, Contains}
use Rattle.gf_ops.specs.declared.aim_walk.Latest.{Latest}
use Rattle.gf_ops.specs.declared.change.Change.TheVariants.{Set}
use Rattle.gf_ops.specs.declared.change.Value.{Value}
use Rattle.gf_ops.specs.declared.op.Op.{Op}
use Rattle.gf_ops.specs.declared.op.OpId.{OpId}
use Rattle.gf_ops.specs.declared.op.ObjectId.{ObjectId}
use Rattle.gf_ops.specs.AimTests.{ConflictsAt}
use Rattle.gf_ops.specs.Attribute.{attribute_index, attribute_of, object_of}
use Rattle.gf_ops.specs.ConflictTests.{sets_another}
use Rattle.gf_ops.specs.DirectConflict.{DirectConflict}
use Rattle.gf_ops.specs.OperationOrder.{entry}

-- the index of the attribute that v is a value of
abbrev pub index_of : Value → ℕ
index_of v = attribute_index (attribute_of v)

-- the operation x sets an attribute to v
pub record Sets (x : Op) (v : Value) : Type 0 where
  pub object : ObjectId
  pub aim : List OpId
  pub is : x.change ≡ Set object v aim

-- x is an operation of h and of the site s, under one of the ids
pub record IsOfSite (h : List Op) (ids : List OpId) (s : ℕ) (x : Op) : Type 0 where
  pub contained : Contains h x
  pub among : Contains ids x.id
  pub site : x.id.site ≡ s

-- all operations of h under these ids are on one object
abbrev pub AreOnOne : List Op → List OpId → Type 0
AreOnOne h ids = (x y : Op) → Contains h x → Contains h y → Contains ids x.id
    → Contains ids y.id → object_of x ≡ object_of y

-- no operation of the site s under the ids conflicts directly with one of the site t under the
-- others
abbrev pub AreParted : List Op → List OpId → List OpId → ℕ → ℕ → Type 0
AreParted h ids others s t = (x y : Op) → IsOfSite h ids s x → IsOfSite h others t y
    → ¬ (DirectConflict x y)

-- no operation of the site s conflicts directly with one of a site below n
abbrev pub ArePartedBelow : List Op → List OpId → ℕ → ℕ → Type 0
ArePartedBelow h ids s n = (t : ℕ) → 1 ≤ t → t < n → AreParted h ids ids s t

-- the operation of h under j is of the site t, and knew i
pub record KnewAt (h : List Op) (t : ℕ) (i j : OpId) : Type 0 where
  pub op : Op
  pub contained : Contains h op
  pub id : op.id ≡ j
  pub site : j.site ≡ t
  pub known : i.seq ≤ entry op.past i.site

-- no operation of the site t under one of the ids knew i
abbrev pub NoneKnew : List Op → List OpId → ℕ → OpId → Type 0
NoneKnew h ids t i = (y : Op) → IsOfSite h ids t y → ¬ (i.seq ≤ entry y.past i.site)

-- the operation of h under i is of the site t, and sets an attribute to v
pub record SetsAt (h : List Op) (t : ℕ) (i : OpId) (v : Value) : Type 0 where
  pub op : Op
  pub contained : Contains h op
  pub id : op.id ≡ i
  pub site : i.site ≡ t
  pub sets : Sets op v

-- the operation of h under i is of the site t, and sets an attribute
pub record SetsSome (h : List Op) (t : ℕ) (i : OpId) : Type 0 where
  pub value : Value
  pub at : SetsAt h t i value

-- the operation of h under i gives the attribute of w another value
pub record GivesAnother (h : List Op) (i : OpId) (w : Value) : Type 0 where
  pub op : Op
  pub contained : Contains h op
  pub id : op.id ≡ i
  pub another : sets_another op.change w ≡ true

-- of the operations of site t under the ids, l names the last setter of the attribute with the
-- index k. Its `other` is the last setter there of another value, or any one where all give one
pub record IsLatest (h : List Op) (ids : List OpId) (t k : ℕ) (l : Latest) : Type 0 where
  pub value : Value
  pub nearest : SetsAt h t l.nearest value
  pub nearest_among : Contains ids l.nearest
  pub index : index_of value ≡ k
  pub last : (y : Op) (w : Value) → IsOfSite h ids t y → Sets y w → index_of w ≡ k
      → y.id.seq ≤ l.nearest.seq
  pub other_value : Value
  pub other : SetsAt h t l.other other_value
  pub other_among : Contains ids l.other
  pub other_index : index_of other_value ≡ k
  pub beyond : (y : Op) (w : Value) → IsOfSite h ids t y → Sets y w → index_of w ≡ k
      → w ≢ value → (other_value ≢ value) × (y.id.seq ≤ l.other.seq)

-- what the entry has under the index k: no setter, or the latest ones
abbrev pub TellsOne : List Op → List OpId → ℕ → ℕ → Option Latest → Type 0
TellsOne h ids t k None = (y : Op) (w : Value) → IsOfSite h ids t y → Sets y w
    → ¬ (index_of w ≡ k)
TellsOne h ids t k (Some l) = IsLatest h ids t k l

-- the table has the entry of each attribute
pub record IsAimTable (h : List Op) (ids : List OpId) (t : ℕ)
    (table : List (Option Latest)) : Type 0 where
  pub wide : length table ≡ 6
  pub each : (k : ℕ) → k < 6 → TellsOne h ids t k (slice_index_or table k None)

-- where i is of the site t, no operation of that site under the ids is numbered above it
abbrev pub NoneAbove : List Op → List OpId → ℕ → OpId → Type 0
NoneAbove h ids t i = i.site ≡ t → (y : Op) → IsOfSite h ids t y → y.id.seq ≤ i.seq

-- x conflicts directly with one of the two setters that l names
abbrev pub ConflictsWithLatest : List Op → Op → Latest → Type 0
ConflictsWithLatest h x l = ConflictsAt h x l.nearest ⊎ ConflictsAt h x l.other

-- the operation of h under i conflicts directly with one of the two setters that the table names
-- for its attribute
pub record ConflictsWithTable (h : List Op) (table : List (Option Latest)) (i : OpId) : Type 0 where
  pub op : Op
  pub contained : Contains h op
  pub id : op.id ≡ i
  pub value : Value
  pub sets : Sets op value
  pub latest : Latest
  pub at : slice_index_or table (index_of value) None ≡ Some latest
  pub conflicts : ConflictsWithLatest h op latest

-- the table has the setters of the first n ids; no operation of the site t under these knew i
pub record IsNoted (h : List Op) (ids : List OpId) (t n : ℕ) (i : OpId)
    (table : List (Option Latest)) : Type 0 where
  pub within : n ≤ length ids
  pub tells : IsAimTable h (take n ids) t table
  pub unknowing : NoneKnew h (take n ids) t i
