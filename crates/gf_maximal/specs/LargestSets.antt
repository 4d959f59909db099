-- The largest compatible sets of numbers, listed (Sun and Chen, ACM TOCHI 9(1), 2002).
use Rattle.std.specs.Prelude.{◌≡◌, ◌≢◌, ◌↔◌, ◌⊎◌, ℕ, Bool, true, false}
use Rattle.std.specs.Prelude.{List, AllPairs, Contains}
use Rattle.std.specs.List.Sorted.{IsStrictlySortedBy}
use Rattle.std.specs.Ordering.{nat_cmp}

-- c says whether two elements conflict
module _ {X : Type 0} (c : X → X → Bool) where
  -- a conflicts with a member of p
  abbrev pub Hits : (X → Type 0) → X → Type 0
  Hits p a = (b : X) × p b × (c a b ≡ true)

  -- p is a largest compatible part of U
  pub record IsLargest (U p : X → Type 0) : Type 0 where
    pub within : (a : X) → p a → U a
    pub compatible : (a b : X) → p a → p b → c a b ≡ false
    pub largest : (a : X) → U a → p a ⊎ Hits p a

-- the numbers g rise
abbrev pub IsRising : List ℕ → Type 0
IsRising g = IsStrictlySortedBy nat_cmp g

-- gs are the largest compatible sets of us, each once
pub record AreLargestSets (c : ℕ → ℕ → Bool) (us : List ℕ) (gs : List (List ℕ)) : Type 0 where
  pub each : (g : List ℕ) → Contains gs g
      ↔ (IsRising g × IsLargest c (Contains us) (Contains g))
  pub once : AllPairs (λ g h. g ≢ h) gs

-- each of the sets gs is a largest compatible set of us
abbrev pub AreLargest : (ℕ → ℕ → Bool) → List ℕ → List (List ℕ) → Type 0
AreLargest c us gs = (g : List ℕ) → Contains gs g → IsLargest c (Contains us) (Contains g)
