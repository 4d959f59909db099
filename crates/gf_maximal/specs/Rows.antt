-- Conflicts of numbers as rows: for each number the numbers that it conflicts with.
use Rattle.std.specs.Prelude.{◌≡◌, ℕ, Bool, false, List, [], slice_index_or}
use Rattle.gf_maximal.specs.Growing.{is_in}

-- the numbers that a conflicts with
abbrev pub row : List (List ℕ) → ℕ → List ℕ
row rows a = slice_index_or rows a []

-- a conflicts with b
abbrev pub conflict : List (List ℕ) → ℕ → ℕ → Bool
conflict rows a b = is_in (row rows a) b

-- no number conflicts with itself, and none with one that does not conflict with it
pub record AreRows (rows : List (List ℕ)) : Type 0 where
  pub symmetric : (a b : ℕ) → conflict rows a b ≡ conflict rows b a
  pub alone : (a : ℕ) → conflict rows a a ≡ false
