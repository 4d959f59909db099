-- Sets of numbers as lists: what one has, and what is made of two (this project's choice).
use Rattle.std.specs.Prelude.{ℕ, Bool, not, ◌==◌, List, [], filter}
use Rattle.std.specs.List.{list_any, list_all, fold}
use Rattle.std.specs.BTreeSet.{insert_key}
use Rattle.std.specs.Ordering.{nat_cmp}

-- a is one of g
abbrev pub is_in : List ℕ → ℕ → Bool
is_in g a = list_any (λ b. a == b) g

-- g has a number of d
abbrev pub intersects : List ℕ → List ℕ → Bool
intersects d g = list_any (is_in d) g

-- the numbers of g that are not in d
abbrev pub without : List ℕ → List ℕ → List ℕ
without d g = filter (λ a. not (is_in d a)) g

-- k has all numbers of g
abbrev pub is_within : List ℕ → List ℕ → Bool
is_within g k = list_all (is_in k) g

-- g and x, rising
abbrev pub joined : ℕ → List ℕ → List ℕ
joined x g = insert_key nat_cmp g x

-- the numbers of g and of k, rising
abbrev pub united : List ℕ → List ℕ → List ℕ
united g k = fold (insert_key nat_cmp) (fold (insert_key nat_cmp) [] g) k

-- the numbers of g that are in d
abbrev pub common : List ℕ → List ℕ → List ℕ
common d g = filter (is_in d) g
