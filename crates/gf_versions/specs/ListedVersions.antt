-- Versions listed by their groups.
use Rattle.std.specs.Prelude.{◌≡◌, List, Contains, map, filter}
use Rattle.gf_shape.specs.declared.any_shape.AnyShape.{AnyShape}
use Rattle.gf_ops.specs.declared.op.Op.{Op}
use Rattle.gf_groups.specs.declared.group.Group.{Group}
use Rattle.gf_versions.specs.declared.key.Version.{Version}
use Rattle.gf_versions.specs.declared.placed.Placed.{Placed}
use Rattle.gf_versions.specs.Ranking.{group_of, placed_version}
use Rattle.gf_versions.specs.VersionOf.{IsVersionOf}

-- the versions vs are those of h with these groups, in their order
pub record AreSettled (h : List Op) (groups : List Group) (vs : List Version) : Type 0 where
  pub grouped : map group_of vs ≡ groups
  pub versions : (v : Version) → Contains vs v → IsVersionOf h v

-- the versions that are shown
abbrev pub shown_of : List Version → List Version
shown_of vs = filter (λ v. v.shown) vs

-- the items are the versions of h with these groups that are shown, at their places
pub record AreShown (h : List Op) (groups : List Group)
    (items : List (Placed AnyShape)) : Type 0 where
  pub versions : List Version
  pub settled : AreSettled h groups versions
  pub placed : items ≡ map placed_version (shown_of versions)
