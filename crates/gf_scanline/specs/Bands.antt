-- Bands: rows of a window, one below the other (this project's choice).
use Rattle.std.specs.Prelude.{ℕ, ◌+◌, ◌≤◌, ◌<◌}
use Rattle.gf_scanline.specs.Windows.{View}

-- the rows of a window from top on, count of them
pub record BandView : Type 0 where
  pub window : View
  pub top : ℕ
  pub count : ℕ

-- the band has a row, and none below the window
pub record IsBand (b : BandView) : Type 0 where
  pub some : 1 ≤ b.count
  pub within : b.top + b.count ≤ b.window.height

-- j is one of the band's rows
abbrev pub HasRow : BandView → ℕ → Type 0
HasRow b j = (b.top ≤ j) × (j < b.top + b.count)
