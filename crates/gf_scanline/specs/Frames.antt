-- Frames: how many columns and rows a picture has (this project's choice).
use Rattle.std.specs.Prelude.{ℕ, Bool, ◌&&◌, nat_le}

-- how many columns and rows a picture has
pub record Sides : Type 0 where
  pub width : ℕ
  pub height : ℕ

-- n is 1 to 4,096
abbrev pub is_side : ℕ → Bool
is_side n = nat_le 1 n && nat_le n 4096

-- both sides are 1 to 4,096
abbrev pub is_frame : Sides → Bool
is_frame f = is_side f.width && is_side f.height
