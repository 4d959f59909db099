-- Windows and their sample points (this project's choice).
use Rattle.std.specs.Prelude.{ℕ, ◌*◌, Bool, ◌&&◌, nat_le, ℤ, pos, negsuc, ◌+ℤ◌}
use Rattle.std.specs.Prelude.{int_le}
use Rattle.gf_plane.specs.declared.point.Point.{Point}
use Rattle.gf_scanline.specs.Frames.{is_side}

-- the part of the plane that a picture shows: first point, step between points, number of columns
-- and rows
pub record View : Type 0 where
  pub x : ℤ
  pub y : ℤ
  pub step : ℕ
  pub width : ℕ
  pub height : ℕ

-- n lies between -2,000,000 and 2,000,000
unfoldable pub is_corner : ℤ → Bool
is_corner n = int_le (negsuc 1999999) n && int_le n (pos 2000000)

-- n is 1 to 10,000
abbrev pub is_step : ℕ → Bool
is_step n = nat_le 1 n && nat_le n 10000

-- the corner, the step and both sides lie within their limits
abbrev pub is_view : View → Bool
is_view w = is_corner w.x && is_corner w.y && is_step w.step && is_side w.width && is_side w.height

-- the x of column i
abbrev pub column : View → ℕ → ℤ
column w i = w.x +ℤ pos (i * w.step)

-- the y of row j
abbrev pub line : View → ℕ → ℤ
line w j = w.y +ℤ pos (j * w.step)

-- the point of column i in row j
abbrev pub sample : View → ℕ → ℕ → Point
sample w i j = record { x = column w i; y = line w j }
