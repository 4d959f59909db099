-- The window that fits a drawing: what its figures hold stands in the middle, within margins, on
-- the least step (this project's choice).
use Rattle.std.specs.Prelude.{◌≡◌, ℕ, ◌-◌, ◌*◌, ◌<◌, ◌≤◌, Bool, false, ◌&&◌, IsTrue, List}
use Rattle.std.specs.Prelude.{Option, None, Some, ℤ, pos, negsuc, ◌+ℤ◌, ◌-ℤ◌, ◌≤ℤ◌, int_le}
use Rattle.std.specs.Int.{int_div_euclid, int_max, int_min}
use Rattle.std.specs.List.{list_any}
use Rattle.gf_shape.specs.declared.bounds.Bounds.{Bounds}
use Rattle.gf_plane.specs.declared.point.Point.{Point}
use Rattle.gf_shape.specs.ShapeLaws.{IsBounds}
use Rattle.gf_figures.specs.declared.figure.Figure.{Figure}
use Rattle.gf_scanline.specs.Frames.{Sides}
use Rattle.gf_scanline.specs.Windows.{View, column, is_corner, is_step, line}
use Rattle.gf_fit.specs.Margins.{inner, margin}

-- some figure holds p
abbrev pub held : {S : Type 0} → (S → Point → Bool) → List (Figure S) → Point → Bool
held {S} holds figures p = list_any (λ (f : Figure S). holds f.shape p) figures

-- the least bounds of the points that are held; none where no point is held
abbrev pub AreBounds : (Point → Bool) → Option Bounds → Type 0
AreBounds holds None = (p : Point) → holds p ≡ false
AreBounds holds (Some b) = IsBounds holds b

-- n samples from low on, a step apart, reach as far as high
abbrev pub reaches : ℕ → ℕ → ℤ → ℤ → Bool
reaches n step low high = int_le high (low +ℤ pos ((n - 1) * step))

-- at this step the columns and the rows within the margins reach from end to end of the bounds b
abbrev pub is_wide_enough : Sides → Bounds → ℕ → Bool
is_wide_enough frame b step = reaches (inner frame.width) step b.low.x b.high.x
    && reaches (inner frame.height) step b.low.y b.high.y

-- the step is the least from 1 to 10,000 that is wide enough, and 10,000 where none is
pub record IsFittedStep (frame : Sides) (b : Bounds) (step : ℕ) : Type 0 where
  pub lawful : IsTrue (is_step step)
  pub enough : step < 10000 → IsTrue (is_wide_enough frame b step)
  pub least : (s : ℕ) → 1 ≤ s → s < step → is_wide_enough frame b s ≡ false

-- where n samples a step apart begin, so that their middle is the middle of low and high, rounded
-- down
abbrev pub first : ℕ → ℕ → ℤ → ℤ → ℤ
first n step low high = int_div_euclid (low +ℤ high -ℤ pos ((n - 1) * step)) (pos 2)

-- the place nearest to n from -2,000,000 to 2,000,000
abbrev pub clamped : ℤ → ℤ
clamped n = int_max (negsuc 1999999) (int_min n (pos 2000000))

-- w has the sides of the frame and the fitted step, and the bounds b stand in the middle
pub record IsOver (frame : Sides) (b : Bounds) (w : View) : Type 0 where
  pub width : w.width ≡ frame.width
  pub height : w.height ≡ frame.height
  pub step : IsFittedStep frame b w.step
  pub x : w.x ≡ clamped (first frame.width w.step b.low.x b.high.x)
  pub y : w.y ≡ clamped (first frame.height w.step b.low.y b.high.y)

-- w is the window over the bounds; without bounds it begins at the origin, with step 1
abbrev pub IsWindowOver : Sides → Option Bounds → View → Type 0
IsWindowOver frame None w =
    w ≡ record { x = pos 0; y = pos 0; step = 1; width = frame.width; height = frame.height }
IsWindowOver frame (Some b) w = IsOver frame b w

-- w is the window of this frame that fits the points that are held
pub record IsFitted (holds : Point → Bool) (frame : Sides) (w : View) : Type 0 where
  pub bounds : Option Bounds
  pub least : AreBounds holds bounds
  pub window : IsWindowOver frame bounds w

-- p lies in w, at least this many columns and rows from the ends
pub record IsInside (columns rows : ℕ) (w : View) (p : Point) : Type 0 where
  pub left : column w columns ≤ℤ p.x
  pub right : p.x ≤ℤ column w (w.width - 1 - columns)
  pub top : line w rows ≤ℤ p.y
  pub bottom : p.y ≤ℤ line w (w.height - 1 - rows)

-- every point that is held lies in w
abbrev pub Covers : (Point → Bool) → View → Type 0
Covers holds w = (p : Point) → IsTrue (holds p) → IsInside 0 0 w p

-- every point that is held lies in w within the margins
abbrev pub ShowsAll : (Point → Bool) → View → Type 0
ShowsAll holds w =
    (p : Point) → IsTrue (holds p) → IsInside (margin w.width) (margin w.height) w p

-- a step of 10,000 is wide enough for the bounds b
abbrev pub IsWide : Sides → Bounds → Type 0
IsWide frame b = IsTrue (is_wide_enough frame b 10000)

-- both corners of the bounds b lie where a window's corner can lie
abbrev pub IsNear : Bounds → Type 0
IsNear b = IsTrue (is_corner b.low.x && is_corner b.low.y && is_corner b.high.x
    && is_corner b.high.y)

-- at the step of w, the bounds b stand in the middle from a corner that a window can have
abbrev pub IsCentral : Sides → Bounds → View → Type 0
IsCentral frame b w = IsTrue (is_corner (first frame.width w.step b.low.x b.high.x)
    && is_corner (first frame.height w.step b.low.y b.high.y))
