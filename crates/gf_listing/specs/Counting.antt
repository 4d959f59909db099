-- How many versions an object has (this project's choice).
use Rattle.std.specs.Prelude.{◌≡◌, ℕ, ◌+◌, cond, nat_le, List, length}
use Rattle.gf_ops.specs.declared.op.Op.{Op}
use Rattle.gf_ops.specs.declared.op.ObjectId.{ObjectId}
use Rattle.gf_groups.specs.declared.group.Group.{Group}
use Rattle.gf_listing.specs.declared.versions.TheConstants.{MOST_COUNTED}
use Rattle.gf_listing.specs.Listed.{AreAllOf}

-- n, or one more than the most versions that are counted where it is more than these
abbrev pub capped : ℕ → ℕ
capped n = cond (nat_le n MOST_COUNTED) n (MOST_COUNTED + 1)

-- the object o of h has n versions, hidden ones too, or more than 1,000 where n is 1,001
pub record IsCount (h : List Op) (o : ObjectId) (n : ℕ) : Type 0 where
  pub groups : List Group
  pub all : AreAllOf h o groups
  pub is : n ≡ capped (length groups)
