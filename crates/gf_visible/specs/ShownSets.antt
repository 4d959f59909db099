-- The largest compatible sets of positions that show, listed unless they are too many. No public
-- clause cites this module.
use Rattle.std.specs.Prelude.{◌≡◌, ◌≢◌, ◌↔◌, ℕ, ◌<◌, ◌≤◌, Bool, true, false}
use Rattle.std.specs.Prelude.{List, AllPairs, Contains}
use Rattle.std.specs.Prelude.{length, Option, Some, None}
use Rattle.gf_ops.specs.declared.op.Op.{Op}
use Rattle.gf_groups.specs.Growing.{conflict_at}
use Rattle.gf_maximal.specs.LargestSets.{IsLargest, IsRising}
use Rattle.gf_visible.specs.Choices.{AreShowing}
use Rattle.gf_visible.specs.ShownAt.{later_at, shows_at}

-- of the positions g, one that no setter of g comes after shows
pub record ShowsSomewhere (h : List Op) (g : List ℕ) : Type 0 where
  pub last : ℕ
  pub within : Contains g last
  pub given : shows_at h last ≡ true
  pub none : (j : ℕ) → Contains g j → later_at h last j ≡ false

-- g is a largest compatible set of the positions us, and shows
pub record IsShownSet (h : List Op) (us g : List ℕ) : Type 0 where
  pub rises : IsRising g
  pub largest : IsLargest (conflict_at h) (Contains us) (Contains g)
  pub shown : ShowsSomewhere h g

-- the sets are all largest compatible sets of the positions us that show, each once
pub record AreShownSets (h : List Op) (us : List ℕ) (sets : List (List ℕ)) : Type 0 where
  pub exactly : (g : List ℕ) → Contains sets g ↔ IsShownSet h us g
  pub once : AllPairs (λ g k. g ≢ k) sets

-- more than m largest compatible sets of the positions us show
pub record HasMoreSets (h : List Op) (us : List ℕ) (m : ℕ) : Type 0 where
  pub sets : List (List ℕ)
  pub all : AreShownSets h us sets
  pub many : m < length sets

-- the sets are all that show of the positions us, and at most m; None, where more show
abbrev pub IsSetListing : List Op → List ℕ → ℕ → Option (List (List ℕ)) → Type 0
IsSetListing h us m (Some sets) = AreShownSets h us sets × (length sets ≤ m)
IsSetListing h us m None = HasMoreSets h us m

-- `hides x`: the number x hides. `covers x y`: y covers x. `c`: whether two numbers conflict
module _ (hides : ℕ → Bool) (covers c : ℕ → ℕ → Bool) where
  -- of us, more than m largest compatible sets show, in which each number that hides is covered
  pub record HasMoreShowing (us : List ℕ) (m : ℕ) : Type 0 where
    pub sets : List (List ℕ)
    pub all : AreShowing hides covers c us sets
    pub many : m < length sets

  -- the sets are all of us that show, and at most m; None, where more show
  abbrev pub IsShowingListing : List ℕ → ℕ → Option (List (List ℕ)) → Type 0
  IsShowingListing us m (Some sets) = AreShowing hides covers c us sets × (length sets ≤ m)
  IsShowingListing us m None = HasMoreShowing us m
