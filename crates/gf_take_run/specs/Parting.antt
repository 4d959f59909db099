-- Where a FIG text begins behind operation lines (Xfig, FIG Format 3.2: the first line begins with
-- `#FIG`; that both stand in one text is this project's choice).
use Rattle.std.specs.Prelude.{◌≡◌, ◌⊎◌, ◌-◌, ◌≤◌, ℕ, List, ◌++◌, Some, codes, drop, slice_get, take}

-- a line of the text begins at place n: it is the first place, or LF stands before it
abbrev pub IsLineStart : List ℕ → ℕ → Type 0
IsLineStart text n = (n ≡ 0) ⊎ (slice_get text (n - 1) ≡ Some 10)

-- at place n of the text a line begins, and it begins with `#FIG`
pub record BeginsFig (text : List ℕ) (n : ℕ) : Type 0 where
  pub line : IsLineStart text n
  pub rest : List ℕ
  pub is : drop n text ≡ codes "#FIG" ++ rest

-- the text is operation lines and a FIG text, which begins at the first such place
pub record IsParted (text lines fig : List ℕ) : Type 0 where
  pub place : ℕ
  pub begins : BeginsFig text place
  pub first : (n : ℕ) → BeginsFig text n → place ≤ n
  pub front : lines ≡ take place text
  pub behind : fig ≡ drop place text
