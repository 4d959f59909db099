-- Largest compatible sets of numbers, grown by one number, so that each new set has one old set as
-- its parent (this project's rule).
use Rattle.std.specs.Prelude.{ℕ, Bool, ◌||◌, ◌&&◌, cond, nat_lt, List, ◌++◌}
use Rattle.std.specs.Prelude.{filter, map}
use Rattle.std.specs.List.{list_any, list_all}
use Rattle.gf_maximal.specs.Growing.{is_in, intersects, without, joined}

-- the set g after x, which conflicts with d
abbrev pub met : List ℕ → ℕ → List ℕ → List ℕ
met d x g = cond (intersects d g) g (joined x g)

-- what d leaves of g, with x
abbrev pub cut : List ℕ → ℕ → List ℕ → List ℕ
cut d x g = joined x (without d g)

-- c says whether two numbers conflict
module _ (c : ℕ → ℕ → Bool) where
  -- a is in g, or conflicts with what d leaves of g; or d takes a away, and a number of g below a
  -- conflicts with a
  abbrev pub is_told : List ℕ → List ℕ → ℕ → Bool
  is_told d g a = is_in g a || (list_any (c a) (without d g)
      || (is_in d a && list_any (λ b. nat_lt b a && c a b) g))

  -- the cut of g is largest, and of all sets of us with that cut g is the parent: what comes first
  -- by taking each number of us that conflicts with nothing so far
  abbrev pub is_parent : List ℕ → List ℕ → List ℕ → Bool
  is_parent us d g = intersects d g && list_all (is_told d g) us

  -- the sets gs of us after x, which conflicts with d: each takes x up or stays, and parents have
  -- their cuts beside them
  abbrev pub next_cut : List ℕ → List ℕ → ℕ → List (List ℕ) → List (List ℕ)
  next_cut us d x gs = map (met d x) gs ++ map (cut d x) (filter (is_parent us d) gs)
