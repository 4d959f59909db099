-- The groups of the visible versions, and histories with more visible versions than a bound (this
-- project's choice).
use Rattle.std.specs.Prelude.{◌≡◌, ◌≢◌, ◌↔◌, ℕ, ◌<◌, List, AllPairs}
use Rattle.std.specs.Prelude.{Contains, length}
use Rattle.gf_shape.specs.declared.any_shape.AnyShape.{AnyShape}
use Rattle.gf_ops.specs.declared.op.Op.{Op}
use Rattle.gf_ops.specs.declared.op.ObjectId.{ObjectId}
use Rattle.gf_groups.specs.declared.group.Group.{Group}
use Rattle.gf_versions.specs.declared.key.Version.{Version}
use Rattle.gf_versions.specs.declared.placed.Placed.{Placed}
use Rattle.gf_versions.specs.Ranking.{AreRanked, group_of}
use Rattle.gf_versions.specs.Visible.{IsVisible}

-- g is the group of a visible version of h
pub record IsVisibleGroup (h : List Op) (g : Group) : Type 0 where
  pub version : Version
  pub visible : IsVisible h version
  pub group : group_of version ≡ g

-- the groups are those of the visible versions of the object o of h, each once
pub record AreVisibleOn (h : List Op) (o : ObjectId) (groups : List Group) : Type 0 where
  pub exactly : (g : Group) → Contains groups g ↔ ((g.object ≡ o) × IsVisibleGroup h g)
  pub once : AllPairs (λ g k. g ≢ k) groups

-- the object o of h has more than m visible versions
pub record HasMoreOn (h : List Op) (o : ObjectId) (m : ℕ) : Type 0 where
  pub groups : List Group
  pub all : AreVisibleOn h o groups
  pub many : m < length groups

-- h has more than m visible versions: its ranked list is longer than m
pub record HasMoreVisible (h : List Op) (m : ℕ) : Type 0 where
  pub items : List (Placed AnyShape)
  pub ranked : AreRanked h items
  pub many : m < length items
