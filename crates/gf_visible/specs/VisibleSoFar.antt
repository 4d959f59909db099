-- The groups of the visible versions of some objects, gathered unless they are too many. No public
-- clause cites this module.
use Rattle.std.specs.Prelude.{◌≢◌, ℕ, ◌<◌, ◌≤◌, List, AllPairs, Contains, length}
use Rattle.std.specs.Prelude.{Option, Some, None}
use Rattle.gf_ops.specs.declared.op.Op.{Op}
use Rattle.gf_groups.specs.declared.group.Group.{Group}
use Rattle.gf_groups.specs.Versions.{IsMade, IsVersionGroup}
use Rattle.gf_visible.specs.ShownVersions.{IsVisibleGroup}

-- the groups meet P, each once. They hold those of all visible versions of h on objects that ops
-- made
pub record HaveVisible (P : Group → Type 0) (h ops : List Op) (groups : List Group) : Type 0 where
  pub each : (g : Group) → Contains groups g → P g × IsMade ops g.object
  pub all : (g : Group) → IsVisibleGroup h g → IsMade ops g.object → Contains groups g
  pub once : AllPairs (λ g k. g ≢ k) groups

-- the groups are those of the visible versions of h whose objects these operations made
abbrev pub AreVisibleOf : List Op → List Op → List Group → Type 0
AreVisibleOf h ops groups = HaveVisible (IsVisibleGroup h) h ops groups

-- the groups are versions of h whose objects these operations made, with all visible ones
abbrev pub HaveVisibleOf : List Op → List Op → List Group → Type 0
HaveVisibleOf h ops groups = HaveVisible (IsVersionGroup h) h ops groups

-- more than m visible versions of h are on objects that these operations made
pub record HasMoreGroups (h ops : List Op) (m : ℕ) : Type 0 where
  pub groups : List Group
  pub each : (g : Group) → Contains groups g → IsVisibleGroup h g × IsMade ops g.object
  pub once : AllPairs (λ g k. g ≢ k) groups
  pub many : m < length groups

-- all groups of visible versions on objects that these operations made; None, where more than m
abbrev pub IsGroupListing : List Op → List Op → ℕ → Option (List Group) → Type 0
IsGroupListing h ops m (Some groups) = AreVisibleOf h ops groups × (length groups ≤ m)
IsGroupListing h ops m None = HasMoreGroups h ops m
