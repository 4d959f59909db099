-- How the name of a version is found among the other visible ones of its object. No public clause
-- cites this module.
use Rattle.std.specs.Prelude.{◌≡◌, ◌↔◌, ◌⊎◌, ◌<◌, ℕ, List, Contains, length, slice_index_or}
use Rattle.std.specs.List.Sorted.{IsStrictlySortedBy}
use Rattle.gf_shape.specs.declared.any_shape.AnyShape.{AnyShape}
use Rattle.gf_ops.specs.declared.op.Op.{Op}
use Rattle.gf_ops.specs.declared.op.OpId.{OpId}
use Rattle.gf_ops.specs.OperationOrder.{id_cmp}
use Rattle.gf_ops.specs.Version.{IsMember}
use Rattle.gf_versions.specs.declared.key.VersionKey.{VersionKey}
use Rattle.gf_versions.specs.declared.placed.Placed.{Placed}
use Rattle.gf_names.specs.Telling.{AreTelling}
use Rattle.gf_fig_named.specs.declared.naming.Lead.{Lead}
use Rattle.gf_fig_named.specs.declared.naming.Name.{Name}

-- the ids of each item rise
abbrev pub AreRising : List (Placed AnyShape) → Type 0
AreRising items = (i : Placed AnyShape) → Contains items i → IsStrictlySortedBy id_cmp i.key.ops

-- the other version is of the same object as the one with this key, and has the id i, which that
-- one lacks
pub record IsLackedOf (key other : VersionKey) (i : OpId) : Type 0 where
  pub object : other.object ≡ key.object
  pub has : Contains other.ops i
  pub lacking : ¬ (Contains key.ops i)

-- the same of one of the items
pub record IsElsewhere (items : List (Placed AnyShape)) (key : VersionKey)
    (i : OpId) : Type 0 where
  pub item : Placed AnyShape
  pub listed : Contains items item
  pub lacked : IsLackedOf key item.key i

-- the others are the ids of the items of the same object that the version with this key lacks
abbrev pub AreElsewhere : List (Placed AnyShape) → VersionKey → List OpId → Type 0
AreElsewhere items key others = (i : OpId) → Contains others i ↔ IsElsewhere items key i

-- the item at one of these places has the id i, and is of the object of this key, which lacks it
pub record IsLackedAmong (items : List (Placed AnyShape)) (places : List ℕ) (key : VersionKey)
    (i : OpId) : Type 0 where
  pub place : ℕ
  pub listed : Contains places place
  pub item : Placed AnyShape
  pub at : item ≡ slice_index_or items place item
  pub lacked : IsLackedOf key item.key i

-- the ids are those of the items at these places that the version with this key lacks
abbrev pub AreLackedAmong : List (Placed AnyShape) → List ℕ → VersionKey → List OpId → Type 0
AreLackedAmong items places key ids = (i : OpId) → Contains ids i
    ↔ IsLackedAmong items places key i

-- the rising ids are those of the items of its object that the item at this index lacks
pub record AreLackedAt (items : List (Placed AnyShape)) (index : ℕ)
    (ids : List OpId) : Type 0 where
  pub elsewhere : (i : Placed AnyShape) → i ≡ slice_index_or items index i
      → AreElsewhere items i.key ids
  pub rising : IsStrictlySortedBy id_cmp ids

-- the lead has one of the items, and the ids that it lacks
pub record IsLead (items : List (Placed AnyShape)) (lead : Lead) : Type 0 where
  pub within : lead.first < length items
  pub lacked : AreLackedAt items lead.first lead.lacked

-- the items at these indices are of one object
abbrev pub AreOfOne : List (Placed AnyShape) → ℕ → ℕ → Type 0
AreOfOne items m n = (i j : Placed AnyShape) → i ≡ slice_index_or items m i
    → j ≡ slice_index_or items n j → i.key.object ≡ j.key.object

-- the others are those of the ids, and of those lacked, that are not own ones
abbrev pub AreOthers : List OpId → List OpId → List OpId → List OpId → Type 0
AreOthers ids lacked own others = (i : OpId) → Contains others i
    ↔ ((Contains ids i ⊎ Contains lacked i) × ¬ (Contains own i))

-- the name has the object of the version, and what tells it from those of these ids that it lacks
pub record IsNameAmong (h : List Op) (ids lacked : List OpId) (key : VersionKey)
    (name : Name) : Type 0 where
  pub object : name.object ≡ key.object
  pub others : List OpId
  pub are : AreOthers ids lacked key.ops others
  pub telling : AreTelling h key.ops (IsMember h others) name.telling
