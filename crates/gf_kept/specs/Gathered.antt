-- The visible versions of some objects, gathered unless they are too many. No public clause cites
-- this module.
use Rattle.std.specs.Prelude.{ℕ, ◌≤◌, List, length, map, Contains, Option, Some, None}
use Rattle.gf_shape.specs.declared.any_shape.AnyShape.{AnyShape}
use Rattle.gf_ops.specs.declared.op.Op.{Op}
use Rattle.gf_groups.specs.declared.group.Group.{Group}
use Rattle.gf_versions.specs.declared.placed.Placed.{Placed}
use Rattle.gf_versions.specs.Ranking.{IsPlaced}
use Rattle.gf_visible.specs.VisibleSoFar.{AreVisibleOf, HasMoreGroups}

-- the group of the operations of the item i
abbrev pub item_group : Placed AnyShape → Group
item_group i = record { object = i.key.object; ops = i.key.ops }

-- the items are the visible versions of h, at their places, on the objects that these operations
-- made
pub record AreItemsOf (h ops : List Op) (items : List (Placed AnyShape)) : Type 0 where
  pub placed : (i : Placed AnyShape) → Contains items i → IsPlaced h i
  pub groups : AreVisibleOf h ops (map item_group items)

-- all visible versions on objects that these operations made; None, where more than m
abbrev pub IsItemListing : List Op → List Op → ℕ → Option (List (Placed AnyShape)) → Type 0
IsItemListing h ops m (Some items) = AreItemsOf h ops items × (length items ≤ m)
IsItemListing h ops m None = HasMoreGroups h ops m
