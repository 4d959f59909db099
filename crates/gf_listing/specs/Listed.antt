-- All operations on an object of a history, and all versions of one (this project's choice).
use Rattle.std.specs.Prelude.{◌≡◌, ◌≢◌, ◌↔◌, List, AllPairs, Contains}
use Rattle.gf_ops.specs.declared.op.Op.{Op}
use Rattle.gf_ops.specs.declared.op.ObjectId.{ObjectId}
use Rattle.gf_ops.specs.Attribute.{object_of}
use Rattle.gf_groups.specs.declared.group.Group.{Group}
use Rattle.gf_groups.specs.Versions.{IsVersionGroup}

-- ops are the operations of h on the object o
abbrev pub AreOn : List Op → ObjectId → List Op → Type 0
AreOn h o ops = (a : Op) → Contains ops a ↔ (Contains h a × (object_of a ≡ o))

-- the groups are the versions of the object o of h, each once
pub record AreAllOf (h : List Op) (o : ObjectId) (groups : List Group) : Type 0 where
  pub exactly : (g : Group) → Contains groups g ↔ ((g.object ≡ o) × IsVersionGroup h g)
  pub once : AllPairs (λ g k. g ≢ k) groups
