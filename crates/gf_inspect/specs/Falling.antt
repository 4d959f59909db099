-- The order by which versions are sorted, the topmost first. No public clause cites this module.
use Rattle.std.specs.Prelude.{List}
use Rattle.std.specs.declared.cmp.Ordering.{Ordering}
use Rattle.std.specs.List.Sorted.{IsPermutation, IsSorted}
use Rattle.gf_ops.specs.declared.op.Op.{Op}
use Rattle.gf_groups.specs.declared.group.Group.{Group}
use Rattle.gf_versions.specs.declared.key.Version.{Version}
use Rattle.gf_versions.specs.Above.{key_cmp}
use Rattle.gf_versions.specs.ListedVersions.{AreSettled}

-- the key of v is above that of w, so v stands before w
abbrev pub falling_cmp : Version → Version → Ordering
falling_cmp v w = key_cmp w.key v.key

-- the versions vs are those of h with these groups, sorted
pub record IsSettledFalling (h : List Op) (groups : List Group) (vs : List Version) : Type 0 where
  pub versions : List Version
  pub settled : AreSettled h groups versions
  pub moved : IsPermutation versions vs
  pub sorted : IsSorted falling_cmp vs
