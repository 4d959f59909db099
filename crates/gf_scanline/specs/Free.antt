-- Which columns of a row are free: a set bit for each, in words of 64 (this project's choice).
use Rattle.std.specs.Prelude.{ℕ, ◌≡◌, ◌/◌, ◌%◌, ◌≤◌, ◌<◌, Bool, true, false, ◌&&◌, not, nat_lt}
use Rattle.std.specs.Prelude.{List, slice_index_or, length, ◌^◌}
use Rattle.std.specs.Int.{bit_at}
use Rattle.gf_scanline.specs.declared.columns.Columns.{Columns}
use Rattle.gf_scanline.specs.Columns.{is_among}

-- bit i of a word is set
unfoldable pub is_set : ℕ → ℕ → Bool
is_set word i = nat_lt 0 (bit_at word i)

-- column k is free
unfoldable pub is_free : List ℕ → ℕ → Bool
is_free words k = is_set (slice_index_or words (k / 64) 0) (k % 64)

-- i is the first number from a on for which the test holds; it is n where there is none below n
pub record IsFirst (test : ℕ → Bool) (n a i : ℕ) : Type 0 where
  pub bound : i ≤ n
  pub from : i < n → a ≤ i
  pub none : (k : ℕ) → a ≤ k → k < i → test k ≡ false
  pub some : i < n → test i ≡ true

-- there are 64 words, and the summary has the bits of those that have a set bit
pub record IsSummary (words : List ℕ) (summary : ℕ) : Type 0 where
  pub count : length words ≡ 64
  pub fits : (i : ℕ) → slice_index_or words i 0 < 2 ^ 64
  pub bits : (i : ℕ) → i < 64 → is_set summary i ≡ nat_lt 0 (slice_index_or words i 0)

-- a run of the columns c, the first that are free in the words old, is free no longer in new
pub record IsTaken (c : Columns) (old new : List ℕ) (run : Columns) : Type 0 where
  pub from : c.from ≤ run.from
  pub some : run.from < run.to
  pub to : run.to ≤ c.to
  pub passed : (k : ℕ) → c.from ≤ k → k < run.from → is_free old k ≡ false
  pub free : (k : ℕ) → is_among run k ≡ true → is_free old k ≡ true
  pub left : (k : ℕ) → is_free new k ≡ (is_free old k && not (is_among run k))
