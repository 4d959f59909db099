-- Keeping versions of an object: it is hidden, and then each kept version is shown again (this
-- project's choice).
use Rattle.std.specs.Prelude.{◌≡◌, ◌≢◌, ◌↔◌, ◌⊎◌, true, false, List, [], ◌∷◌, Contains}
use Rattle.std.specs.List.{AllZip}
use Rattle.std.specs.List.Sorted.{IsStrictlySortedBy}
use Rattle.gf_ops.specs.declared.op.Op.{Op}
use Rattle.gf_ops.specs.declared.op.OpId.{OpId}
use Rattle.gf_ops.specs.declared.op.ObjectId.{ObjectId}
use Rattle.gf_ops.specs.declared.change.Change.{Change}
use Rattle.gf_ops.specs.declared.change.Change.TheVariants.{Set}
use Rattle.gf_ops.specs.declared.change.Value.TheVariants.{Shown}
use Rattle.gf_ops.specs.Attribute.{aim_of, object_of}
use Rattle.gf_ops.specs.OperationOrder.{id_cmp}
use Rattle.gf_groups.specs.declared.group.Group.{Group}
use Rattle.gf_groups.specs.Versions.{group_cmp}
use Rattle.gf_names.specs.Telling.{IsTelling}
use Rattle.gf_visible.specs.ShownVersions.{IsVisibleGroup}
use Rattle.gf_keep.specs.declared.keep.Keep.{Keep}

-- g is the group of a visible version of the object, and has all ids that the keep k names
pub record IsKept (h : List Op) (k : Keep) (g : Group) : Type 0 where
  pub object : g.object ≡ k.object
  pub visible : IsVisibleGroup h g
  pub has : (i : OpId) → Contains k.with i → Contains g.ops i

-- the groups are those that k keeps, each once, rising
pub record AreKept (h : List Op) (k : Keep) (groups : List Group) : Type 0 where
  pub exactly : (g : Group) → Contains groups g ↔ IsKept h k g
  pub rising : IsStrictlySortedBy group_cmp groups

-- x is an operation of h on the object o
pub record IsOn (h : List Op) (o : ObjectId) (x : Op) : Type 0 where
  pub contained : Contains h x
  pub object : object_of x ≡ o

-- i tells the group g from the operations on its object
abbrev pub IsMark : List Op → Group → OpId → Type 0
IsMark h g i = IsTelling h g.ops (IsOn h g.object) i

-- an operation that tells the group g from those on its object aims at i
pub record IsAimOfMark (h : List Op) (g : Group) (i : OpId) : Type 0 where
  pub op : Op
  pub contained : Contains h op
  pub mark : IsMark h g op.id
  pub aimed : Contains (aim_of op) i

-- the rising ids tell the group g from the operations on its object. With them are those that they
-- aim at
pub record AreAimedAt (h : List Op) (g : Group) (ids : List OpId) : Type 0 where
  pub exactly : (i : OpId) → Contains ids i ↔ (IsMark h g i ⊎ IsAimOfMark h g i)
  pub rising : IsStrictlySortedBy id_cmp ids

-- the change hides the object o in all its versions
abbrev pub hiding : ObjectId → Change
hiding o = Set o (Shown false) []

-- the change c shows the version of the group g
pub record IsShowing (h : List Op) (g : Group) (c : Change) : Type 0 where
  pub aim : List OpId
  pub aims : AreAimedAt h g aim
  pub is : c ≡ Set g.object (Shown true) aim

-- some versions are kept. The changes hide the object, and then show each of them, in their order
pub record AreKeeping (h : List Op) (k : Keep) (changes : List Change) : Type 0 where
  pub groups : List Group
  pub kept : AreKept h k groups
  pub some : groups ≢ []
  pub shows : List Change
  pub each : AllZip (IsShowing h) groups shows
  pub is : changes ≡ hiding k.object ∷ shows
