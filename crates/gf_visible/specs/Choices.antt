-- The largest compatible sets of positions in which what hides is covered (this project's choice).
use Rattle.std.specs.Prelude.{◌≡◌, ◌≢◌, ◌↔◌, ℕ, Bool, true, not, ◌&&◌}
use Rattle.std.specs.Prelude.{◌||◌, cond}
use Rattle.std.specs.Prelude.{List, [], ◌∷◌, ◌++◌, filter, map, AllPairs, Contains}
use Rattle.std.specs.List.{list_all}
use Rattle.gf_maximal.specs.Growing.{intersects, without}
use Rattle.gf_maximal.specs.LargestSets.{IsLargest, IsRising}

-- a position alone, whether it hides, the positions that cover it, and its rivals
pub record StepState : Type 0 where
  pub own : List ℕ
  pub hides : Bool
  pub covers : List ℕ
  pub rivals : List ℕ

-- where the positions p are possible, the step may be chosen and covered, or left out for a rival
abbrev pub holds : List ℕ → StepState → Bool
holds p s = (intersects s.own p && (not s.hides || intersects s.covers p)) || intersects s.rivals p

-- each of the steps holds where the positions p are possible
abbrev pub all_hold : List StepState → List ℕ → Bool
all_hold all p = list_all (holds p) all

-- what is possible after the step: a position that hides is left out first, another one chosen
abbrev pub first : StepState → List ℕ → List ℕ
first s p = cond s.hides (without s.own p) (without s.rivals p)

-- what is possible the other way round: a position that hides is chosen, another one left out
abbrev pub second : StepState → List ℕ → List ℕ
second s p = cond s.hides (without s.rivals p) (without s.own p)

-- what is chosen of the positions p, step by step, where a step is possible
abbrev pub choices : List StepState → List ℕ → List (List ℕ)
choices [] p = p ∷ []
choices (s ∷ steps) p =
    cond (intersects s.own p) (choices steps (first s p) ++ choices steps (second s p))
    (choices steps p)

-- the choices by these steps in which all hold
abbrev pub answers : List StepState → List StepState → List ℕ → List (List ℕ)
answers all steps p = filter (all_hold all) (choices steps p)

-- the positions us, those that hide before the others
abbrev pub hiding_first : (ℕ → Bool) → List ℕ → List ℕ
hiding_first hides us = filter hides us ++ filter (λ x. not (hides x)) us

-- `hides x`: the position x hides. `covers x y`: y covers x. `rivals x y`: x and y conflict
module _ (hides : ℕ → Bool) (covers rivals : ℕ → ℕ → Bool) where
  -- the step of the position x among the positions us
  abbrev pub step_of : List ℕ → ℕ → StepState
  step_of us x = record {
    own = x ∷ [];
    hides = hides x;
    covers = cond (hides x) (filter (covers x) us) [];
    rivals = filter (rivals x) us;
  }

  -- the steps of the positions us, those that hide before the others
  abbrev pub steps_of : List ℕ → List StepState
  steps_of us = map (step_of us) (hiding_first hides us)

  -- the choices among the positions us
  abbrev pub showing : List ℕ → List (List ℕ)
  showing us = answers (steps_of us) (steps_of us) us

  -- each position of g that hides is covered in g
  abbrev pub IsCovered : List ℕ → Type 0
  IsCovered g = (a : ℕ) → Contains g a → hides a ≡ true
      → (b : ℕ) × Contains g b × (covers a b ≡ true)

  -- g is a largest compatible set of us in which each position that hides is covered
  pub record IsShowing (us g : List ℕ) : Type 0 where
    pub rises : IsRising g
    pub largest : IsLargest rivals (Contains us) (Contains g)
    pub covered : IsCovered g

  -- gs are all largest compatible sets of us that show, each once
  pub record AreShowing (us : List ℕ) (gs : List (List ℕ)) : Type 0 where
    pub exactly : (g : List ℕ) → Contains gs g ↔ IsShowing us g
    pub once : AllPairs (λ g k. g ≢ k) gs
