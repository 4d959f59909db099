-- Some columns of a row, painted from the front to the back: each once, while it is free (this
-- project's choice).
use Rattle.std.specs.Prelude.{ℕ, ◌≡◌, ◌<◌, Bool, true, false, ◌||◌, if◌then◌else◌}
use Rattle.std.specs.Prelude.{List, Contains}
use Rattle.std.specs.List.{list_any}
use Rattle.gf_plane.specs.declared.colour.Rgb.{Rgb}
use Rattle.gf_scanline.specs.declared.columns.Columns.{Columns}
use Rattle.gf_scanline.specs.Columns.{is_among}
use Rattle.gf_scanline.specs.Free.{is_free}

-- the colour c where the test holds, else what was there
abbrev pub over : (ℕ → Bool) → Rgb → (ℕ → Rgb) → ℕ → Rgb
over test c f k = if test k then c else f k

-- the colourings f and g of n columns agree outside c
abbrev pub AreSameOutside : Columns → ℕ → (ℕ → Rgb) → (ℕ → Rgb) → Type 0
AreSameOutside c n f g = (k : ℕ) → k < n → is_among c k ≡ false → f k ≡ g k

-- a segment: columns in one colour
pub record SegmentView : Type 0 where
  pub columns : Columns
  pub colour : Rgb

-- k is one of the columns of a list of segments
abbrev pub is_painted : List SegmentView → ℕ → Bool
is_painted ss k = list_any (λ s. is_among s.columns k) ss

-- a strip: what of its columns is painted, and the bits of those that are still free
pub record Shown : Type 0 where
  pub segments : List SegmentView
  pub free : List ℕ

-- each of n columns is free or painted; with behind in the free columns, the strip shows target
pub record IsPainted (target behind : ℕ → Rgb) (n : ℕ) (strip : Shown) : Type 0 where
  pub free : (k : ℕ) → k < n → is_free strip.free k ≡ true → behind k ≡ target k
  pub whole : (k : ℕ) → k < n → (is_free strip.free k || is_painted strip.segments k) ≡ true
  pub colours : (s : SegmentView) (k : ℕ) → Contains strip.segments s → k < n
      → is_among s.columns k ≡ true → s.colour ≡ target k
