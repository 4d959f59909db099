-- What the changes of a keep are made from. No public clause cites this module.
use Rattle.std.specs.Prelude.{◌≡◌, ◌↔◌, ◌∷◌, List, Contains, Bool}
use Rattle.std.specs.List.{AllZip, list_all, list_any}
use Rattle.gf_ops.specs.declared.op.Op.{Op}
use Rattle.gf_ops.specs.declared.op.OpId.{OpId}
use Rattle.gf_ops.specs.declared.op.ObjectId.{ObjectId}
use Rattle.gf_ops.specs.declared.change.Change.{Change}
use Rattle.gf_ops.specs.HasOperation.{HasOn}
use Rattle.gf_groups.specs.declared.group.Group.{Group}
use Rattle.gf_groups.specs.VersionList.{id_eq}
use Rattle.gf_keep.specs.Keeping.{IsShowing, hiding}

-- the ids are those of the operations on the object o
abbrev pub AreIdsOn : List Op → ObjectId → List OpId → Type 0
AreIdsOn h o ids = (i : OpId) → Contains ids i ↔ HasOn h o i

-- all groups are of the object o
abbrev pub AreOfObject : ObjectId → List Group → Type 0
AreOfObject o groups = (g : Group) → Contains groups g → g.object ≡ o

-- the group g has all of the ids
abbrev pub has_all : List OpId → Group → Bool
has_all ids g = list_all (λ i. list_any (id_eq i) g.ops) ids

-- the changes hide the object o, and then show each of the groups, in their order
pub record AreShowings (h : List Op) (o : ObjectId) (groups : List Group)
    (changes : List Change) : Type 0 where
  pub shows : List Change
  pub each : AllZip (IsShowing h) groups shows
  pub is : changes ≡ hiding o ∷ shows
