-- The rows of direct classes and of the joint ones behind them. No public clause cites this module.
use Rattle.std.specs.Prelude.{◌≡◌, ◌↔◌, ◌⊎◌, ℕ, ◌+◌, ◌<◌, true, List, [], ◌++◌, length, Contains}
use Rattle.std.specs.Prelude.{◌≤◌, Some, slice_get, slice_index_or}
use Rattle.gf_maximal.specs.Growing.{intersects}
use Rattle.gf_maximal.specs.Rows.{row}

-- f is the number of a set that has one of the numbers, where that of the first set is n
pub record Meets (n : ℕ) (sets : List (List ℕ)) (set : List ℕ) (f : ℕ) : Type 0 where
  pub index : ℕ
  pub number : f ≡ n + index
  pub one : List ℕ
  pub at : slice_get sets index ≡ Some one
  pub met : intersects one set ≡ true

-- new has what old has, and the numbers of the sets that have one of the numbers
abbrev pub AddsMet : ℕ → List (List ℕ) → List ℕ → List ℕ → List ℕ → Type 0
AddsMet n sets set old new = (f : ℕ) → Contains new f ↔ (Contains old f ⊎ Meets n sets set f)

-- near are the direct classes that conflict with one of the set
abbrev pub IsNear : List (List ℕ) → List ℕ → List ℕ → Type 0
IsNear rows own near = (k : ℕ) → Contains near k ↔ Meets 0 rows own k

-- found is the row of a class that conflicts with these direct classes
abbrev pub IsRowOver : ℕ → List (List ℕ) → List ℕ → List ℕ → Type 0
IsRowOver n owns near found = AddsMet n owns near near found

-- found is the row of the joint class that brings these direct classes
pub record IsJointRow (rows owns : List (List ℕ)) (own found : List ℕ) : Type 0 where
  pub near : List ℕ
  pub is_near : IsNear rows own near
  pub is_row : IsRowOver (length rows) owns near found

-- found has the rows of the direct classes
pub record AreDirectRows (rows owns found : List (List ℕ)) : Type 0 where
  pub count : length found ≡ length rows
  pub each : (k : ℕ) → k < length rows
      → IsRowOver (length rows) owns (row rows k) (row found k)

-- found has the rows of the first n direct classes, and behind them what rows has
pub record AreJoinedRows (rows owns found : List (List ℕ)) (n : ℕ) : Type 0 where
  pub count : length found ≡ length rows
  pub done : (k : ℕ) → k < n → IsRowOver (length rows) owns (row rows k) (row found k)
  pub rest : (k : ℕ) → n ≤ k → row found k ≡ row rows k

-- found has the rows of the first joint classes
abbrev pub AreJointRows : List (List ℕ) → List (List ℕ) → List (List ℕ) → Type 0
AreJointRows rows owns found = (j : ℕ) → j < length found
    → IsJointRow rows owns (slice_index_or owns j []) (row found j)

-- found has the rows of all direct classes, and behind them those of all joint ones
pub record AreAllRows (rows owns found : List (List ℕ)) : Type 0 where
  pub front : List (List ℕ)
  pub back : List (List ℕ)
  pub all : found ≡ front ++ back
  pub back_count : length back ≡ length owns
  pub front_rows : AreDirectRows rows owns front
  pub back_rows : AreJointRows rows owns back
