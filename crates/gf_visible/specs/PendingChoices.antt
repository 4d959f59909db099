-- Choices that are still to be followed. No public clause cites this module.
use Rattle.std.specs.Prelude.{ℕ, ◌+◌, ◌-◌, ◌^◌, List, [], ◌++◌, drop}
use Rattle.std.specs.List.{fold}
use Rattle.gf_visible.specs.Choices.{StepState, answers}

-- the index of the next step, and what is possible before it
pub record ChoiceState : Type 0 where
  pub at : ℕ
  pub possible : List ℕ

-- what is found by the choices that are left, of which the last one is followed first
abbrev pub all_answers : List StepState → List ChoiceState → List (List ℕ)
all_answers all left =
    fold (λ rest o. answers all (drop o.at all) o.possible ++ rest) [] left

-- the greatest number of choices from the step at the index on, of n steps
abbrev pub weight_of : ℕ → ℕ → ℕ
weight_of n at = 2 ^ (n - at)

-- the greatest number of choices by all that are left
abbrev pub weight : ℕ → List ChoiceState → ℕ
weight n left = fold (λ sum o. weight_of n o.at + sum) 0 left
