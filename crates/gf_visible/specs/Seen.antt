-- Largest compatible sets of numbers that grow, as far as they may still show. No public clause
-- cites this module.
use Rattle.std.specs.Prelude.{◌≡◌, ◌↔◌, ◌⊎◌, ◌<◌, ◌≤◌, ◌||◌, ℕ, Bool, false, List, Contains}
use Rattle.std.specs.Prelude.{filter, length, Option, Some, None}
use Rattle.std.specs.List.{list_any, list_all}
use Rattle.gf_maximal.specs.LargestSets.{IsRising, AreLargestSets}

-- `covers k j`: j covers the number k, which hides. `c`: whether two numbers conflict
module _ (covers c : ℕ → ℕ → Bool) where
  -- the number k is covered in the set g, or conflicts with a number of g
  abbrev pub stands : List ℕ → ℕ → Bool
  stands g k = list_any (covers k) g || list_any (c k) g

  -- each of the numbers hs, which hide, is covered in the set g, or conflicts with a number of g
  abbrev pub seen : List ℕ → List ℕ → Bool
  seen hs g = list_all (stands g) hs

  -- gs are the largest compatible sets of us in which all of hs are covered, or conflict with one
  pub record IsSeenPart (hs us : List ℕ) (gs : List (List ℕ)) : Type 0 where
    pub rises : IsRising us
    pub all : List (List ℕ)
    pub table : AreLargestSets c us all
    pub is : gs ≡ filter (seen hs) all

  -- the number x covers none, and conflicts with none of hs
  pub record IsCalm (hs : List ℕ) (x : ℕ) : Type 0 where
    pub covers_none : (k : ℕ) → covers k x ≡ false
    pub apart : (k : ℕ) → Contains hs k → c k x ≡ false

  -- gs are such sets of the numbers us and vs
  pub record IsPartOf (hs us vs : List ℕ) (gs : List (List ℕ)) : Type 0 where
    pub all : List ℕ
    pub part : IsSeenPart hs all gs
    pub exactly : (a : ℕ) → Contains all a ↔ (Contains us a ⊎ Contains vs a)

  -- more than m are such sets of the numbers us and vs
  pub record HasMoreParts (hs us vs : List ℕ) (m : ℕ) : Type 0 where
    pub sets : List (List ℕ)
    pub part : IsPartOf hs us vs sets
    pub many : m < length sets

  -- the sets are those of us and vs, and at most m; None, where they are more
  abbrev pub IsPartListing : List ℕ → List ℕ → List ℕ → ℕ → Option (List (List ℕ)) → Type 0
  IsPartListing hs us vs m (Some gs) = IsPartOf hs us vs gs × (length gs ≤ m)
  IsPartListing hs us vs m None = HasMoreParts hs us vs m

  -- us were met before vs, of which rest is left; the sets of what was met are gs
  pub record AreMet (hs us vs met rest : List ℕ) (gs : List (List ℕ)) : Type 0 where
    pub part : IsSeenPart hs met gs
    pub exactly : (a : ℕ) → (Contains met a ⊎ Contains rest a) ↔ (Contains us a ⊎ Contains vs a)
    pub fresh : (a : ℕ) → Contains rest a → ¬ (Contains met a)
    pub rises : IsRising rest
    pub later : (a : ℕ) → Contains rest a → Contains vs a

  -- the numbers vs may be met after us: they are new, and cover none
  pub record MayBeMet (hs us vs : List ℕ) (n : ℕ) : Type 0 where
    pub rises : IsRising vs
    pub fresh : (a : ℕ) → Contains vs a → ¬ (Contains us a)
    pub calm : (a : ℕ) → Contains vs a → IsCalm hs a
    pub below : (a : ℕ) → Contains us a ⊎ Contains vs a → a < n

-- numbers that were met, and their largest sets that may still show
pub record PartialState : Type 0 where
  pub met : List ℕ
  pub sets : List (List ℕ)
