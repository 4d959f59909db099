-- A set of numbers as runs of numbers that follow each other.
use Rattle.std.specs.Prelude.{◌≡◌, ◌≤◌, max, min, true, length, slice_index_or, ℕ, ◌+◌}
use Rattle.std.specs.Prelude.{◌-◌, ◌<◌}
use Rattle.std.specs.Prelude.{Bool, cond, ◌==◌, ◌&&◌, ◌||◌, nat_eq, nat_le, nat_lt}
use Rattle.std.specs.Prelude.{List, []}
use Rattle.std.specs.Prelude.{◌∷◌}
use Rattle.std.specs.Prelude.{◌++◌, Contains, ⊤, false}
use Rattle.std.specs.List.{flat_map, range_with_len, fold}
use Rattle.std.specs.List.Sorted.{IsPermutation, IsNonDecreasingBy}
use Rattle.std.specs.Cmp.Lexicographic.{pointwise}
use Rattle.std.specs.Ordering.{on, eq_of_both}
use Rattle.gf_maximal.specs.declared.run.Run.{Run}

-- r and q are one run
abbrev pub is_same : Run → Run → Bool
is_same = eq_of_both (on (λ r. r.start) nat_eq) (on (λ r. r.end) nat_eq)

-- the runs are the others
abbrev pub are_same : List Run → List Run → Bool
are_same rs qs = pointwise is_same rs qs

-- the numbers of a run
abbrev pub numbers_of : Run → List ℕ
numbers_of r = range_with_len r.start (r.end - r.start)

-- the run has a number
abbrev pub is_full : Run → Bool
is_full r = nat_lt r.start r.end

-- the numbers of all runs
abbrev pub members : List Run → List ℕ
members rs = flat_map numbers_of rs

-- no run is empty, and after each a number is left out
abbrev pub AreRuns : List Run → Type 0
AreRuns [] = ⊤
AreRuns (r ∷ rs) = (r.start < r.end) × ((q : Run) → Contains rs q → r.end < q.start)
    × AreRuns rs

-- the runs from the first one on that has n or a number above it
abbrev pub after : ℕ → List Run → List Run
after n [] = []
after n (r ∷ rs) = cond (nat_le r.end n) (after n rs) (r ∷ rs)

-- a is in the run
abbrev pub is_inside : Run → ℕ → Bool
is_inside r a = nat_le r.start a && nat_lt a r.end

-- the numbers of the run below n
abbrev pub until : ℕ → Run → Run
until n r = record { start = r.start; end = min r.end n }

-- the first of these runs begins before r ends
abbrev pub first_touches : Run → List Run → Bool
first_touches r [] = false
first_touches r (q ∷ qs) = nat_lt q.start r.end

-- the first of these runs has all of r
abbrev pub first_covers : Run → List Run → Bool
first_covers r [] = false
first_covers r (q ∷ qs) = nat_le q.start r.start && nat_le r.end q.end

-- one of these runs has a number of r
abbrev pub touches : List Run → Run → Bool
touches qs r = nat_lt r.start r.end && first_touches r (after r.start qs)

-- the runs have all numbers of r
abbrev pub covers : List Run → Run → Bool
covers qs r = nat_le r.end r.start || first_covers r (after r.start qs)

-- the run, unless it is empty
abbrev pub piece : Run → List Run
piece r = cond (nat_lt r.start r.end) (r ∷ []) []

-- what is in r and in none of these runs, which end after it begins
abbrev pub cut : Run → List Run → List Run
cut r [] = piece r
cut r (q ∷ qs) =
    cond (nat_le r.end q.start) (piece r)
    (piece (record { start = r.start; end = q.start })
    ++ cut (record { start = q.end; end = r.end }) qs)

-- what is in the runs rs and in none of qs
abbrev pub all_cut : List Run → List Run → List Run
all_cut qs rs = flat_map (λ r. cut r (after r.start qs)) rs

-- a run before others, of which it takes up the first if it ends where that begins
abbrev pub absorb : Run → List Run → List Run
absorb r [] = r ∷ []
absorb r (q ∷ qs) =
    cond (r.end == q.start) (record { start = r.start; end = q.end } ∷ qs) (r ∷ q ∷ qs)

-- the runs of which the first one ends at x or above it, with x added
abbrev pub put_into : ℕ → Run → List Run → List Run
put_into x q qs = cond (q.end == x) (absorb (record { start = q.start; end = x + 1 }) qs)
    (cond (nat_le q.start x) (q ∷ qs)
    (cond (q.start == x + 1) (record { start = x; end = q.end } ∷ qs)
    (record { start = x; end = x + 1 } ∷ q ∷ qs)))

-- the runs with x added
abbrev pub put : ℕ → List Run → List Run
put x [] = record { start = x; end = x + 1 } ∷ []
put x (q ∷ qs) = cond (nat_lt q.end x) (q ∷ put x qs) (put_into x q qs)

-- i is the index of the first run that ends at x or above it, or how many there are
pub record IsFirstFrom (x : ℕ) (rs : List Run) (i : ℕ) : Type 0 where
  pub bound : i ≤ length rs
  pub below : (k : ℕ) (d : Run) → k < i → nat_lt (slice_index_or rs k d).end x ≡ true
  pub above : (k : ℕ) (d : Run) → i ≤ k → k < length rs
      → nat_lt (slice_index_or rs k d).end x ≡ false

-- runs of which the first one, if there is one, ends at x or above it, with x added
abbrev pub put_at : ℕ → List Run → List Run
put_at x [] = record { start = x; end = x + 1 } ∷ []
put_at x (q ∷ qs) = put_into x q qs

-- the runs with r, which begins where the last of them does or behind it
abbrev pub pushed : List Run → Run → List Run
pushed [] r = r ∷ []
pushed (q ∷ []) r =
    cond (nat_le r.start q.end) (record { start = q.start; end = max q.end r.end } ∷ [])
    (q ∷ r ∷ [])
pushed (q ∷ p ∷ ps) r = q ∷ pushed (p ∷ ps) r

-- the run of one number
abbrev pub single : ℕ → Run
single n = record { start = n; end = n + 1 }

-- us are the runs rs, sorted by where they begin and pushed one behind the other
pub record IsGathered (rs us : List Run) : Type 0 where
  pub all : List Run
  pub moved : IsPermutation rs all
  pub rises : IsNonDecreasingBy (λ (r : Run). r.start) all
  pub made : us ≡ fold pushed [] all

-- from the start of each run that is left, rest has the runs that the others have
pub record Serves (rest others left : List Run) : Type 0 where
  pub runs : AreRuns rest
  pub same : (q : Run) → Contains left q → after q.start rest ≡ after q.start others
