-- The versions of the objects of a history, listed (maximal compatible groups, Sun and Chen, ACM
-- TOCHI 9(1), 2002; their order is this project's choice).
use Rattle.std.specs.Prelude.{◌≡◌, ◌↔◌, List, Contains}
use Rattle.std.specs.List.Sorted.{IsStrictlySortedBy}
use Rattle.std.specs.declared.cmp.Ordering.{Ordering}
use Rattle.std.specs.Cmp.Lexicographic.{slice_cmp}
use Rattle.gf_ops.specs.declared.op.Op.{Op}
use Rattle.gf_ops.specs.declared.op.ObjectId.{ObjectId}
use Rattle.gf_ops.specs.Attribute.{Kind}
use Rattle.gf_ops.specs.OperationOrder.{id_cmp}
use Rattle.gf_ops.specs.Version.{IsVersion}
use Rattle.gf_ops.specs.HasOperation.{IsOfKind}
use Rattle.gf_groups.specs.declared.group.Group.{Group}

-- h has an operation that made the object o
pub record IsMade (h : List Op) (o : ObjectId) : Type 0 where
  pub kind : Kind
  pub made : IsOfKind h o kind

-- groups are ordered by their ids as a dictionary orders them
abbrev pub group_cmp : Group → Group → Ordering
group_cmp g k = slice_cmp id_cmp g.ops k.ops

-- g is a version of its object
abbrev pub IsVersionGroup : List Op → Group → Type 0
IsVersionGroup h g = IsVersion h g.object g.ops

-- the groups are the versions of the object o of h, each once, rising
pub record AreVersions (h : List Op) (o : ObjectId) (groups : List Group) : Type 0 where
  pub exactly : (g : Group) → Contains groups g ↔ ((g.object ≡ o) × IsVersionGroup h g)
  pub rising : IsStrictlySortedBy group_cmp groups
