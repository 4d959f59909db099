-- What growth asks before it cuts a set, and what it keeps. No public clause cites this module.
use Rattle.std.specs.Prelude.{◌≡◌, ℕ, Bool, true, false, cond, List, Contains, ◌<◌, length, take}
use Rattle.std.specs.List.{list_all, fold, range_with_len}
use Rattle.std.specs.Option.{MatchOption}
use Rattle.std.specs.Prelude.{Option}
use Rattle.gf_maximal.specs.Growing.{is_in, intersects, without, united, common}
use Rattle.gf_maximal.specs.LargestSets.{IsRising, AreLargestSets}
use Rattle.gf_maximal.specs.Rows.{row, conflict}
use Rattle.gf_maximal.specs.Parents.{is_told, is_parent}

-- the numbers of g that conflict with none of xs
abbrev pub spared : List (List ℕ) → List ℕ → List ℕ → List ℕ
spared rows g xs = fold (λ left a. without (row rows a) left) g xs

-- the numbers of the row that keep a out of a set, of which d is taken away: those that stay, and
-- those below a if a is in d
abbrev pub keepers : List ℕ → List ℕ → ℕ → List ℕ
keepers d r a =
    cond (is_in d a) (united (without d r) (common (range_with_len 0 a) r)) (without d r)

-- the numbers of us conflict by c, and those of d are taken away
module _ (c : ℕ → ℕ → Bool) (us d : List ℕ) where
  -- a set that has no number of w is no parent
  abbrev pub IsWitness : List ℕ → Type 0
  IsWitness w = (g : List ℕ) → intersects w g ≡ false → is_parent c us d g ≡ false

  -- one of us that is not told is found, or there is none
  abbrev pub IsAsked : List ℕ → Option ℕ → Type 0
  IsAsked g found = MatchOption found (list_all (is_told c d g) us ≡ true)
      (λ a. Contains us a × (is_told c d g a ≡ false))

  -- of us only xs may not be told
  pub record AreDoubtful (g xs : List ℕ) : Type 0 where
    pub within : (a : ℕ) → Contains xs a → Contains us a
    pub others : (a : ℕ) → Contains us a → ¬ (Contains xs a) → is_told c d g a ≡ true

  -- what d leaves of g, which is a parent, is found, or g is no parent
  abbrev pub IsRest : List ℕ → Option (List ℕ) → Type 0
  IsRest g found = MatchOption found (is_parent c us d g ≡ false)
      (λ rest. (is_parent c us d g ≡ true) × (rest ≡ without d g))

-- gs are all largest sets of the numbers us, which have rows
pub record IsGrown (rows : List (List ℕ)) (us : List ℕ) (gs : List (List ℕ)) : Type 0 where
  pub rising : IsRising us
  pub below : (a : ℕ) → Contains us a → a < length rows
  pub sets : AreLargestSets (conflict rows) us gs

-- met are the numbers us before place i, and gs all largest sets of those met
pub record IsGrownTo (rows : List (List ℕ)) (us : List ℕ) (i : ℕ) (met : List ℕ)
    (gs : List (List ℕ)) : Type 0 where
  pub front : met ≡ take i us
  pub grown : IsGrown rows met gs
