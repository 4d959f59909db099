-- How workers share the rows of a band, and its columns. No public clause cites this module.
use Rattle.std.specs.Prelude.{ℕ, ◌≡◌, ◌*◌, ◌+◌, ◌-◌, ◌/◌, ◌%◌, min}
use Rattle.gf_scanline.specs.Windows.{View}

-- at which of `count` things worker k begins, where each worker has `size` of them
abbrev pub cut : ℕ → ℕ → ℕ → ℕ
cut count size k = min (k * size) count

-- how many of `count` things worker k has
abbrev pub run : ℕ → ℕ → ℕ → ℕ
run count size k = min size (count - cut count size k)

-- how many parts of this size make up `count` things
abbrev pub parts : ℕ → ℕ → ℕ
parts count size = count / size + min 1 (count % size)

-- how many columns each worker has: whole tiles of 64
abbrev pub stride : View → ℕ → ℕ
stride w workers = 64 * parts (parts w.width 64) workers

-- so many rows are whole bands of 64 rows
pub record AreWholeBands (rows : ℕ) : Type 0 where
  pub bands : ℕ
  pub are : rows ≡ 64 * bands
