-- How many versions of an object are visible (this project's choice).
use Rattle.std.specs.Prelude.{◌≡◌, ℕ, List, length}
use Rattle.gf_ops.specs.declared.op.Op.{Op}
use Rattle.gf_ops.specs.declared.op.ObjectId.{ObjectId}
use Rattle.gf_groups.specs.declared.group.Group.{Group}
use Rattle.gf_listing.specs.Counting.{capped}
use Rattle.gf_visible.specs.ShownVersions.{AreVisibleOn}

-- the object o of h has n visible versions, or more than 1,000 where n is 1,001
pub record IsShownCount (h : List Op) (o : ObjectId) (n : ℕ) : Type 0 where
  pub groups : List Group
  pub all : AreVisibleOn h o groups
  pub is : n ≡ capped (length groups)
