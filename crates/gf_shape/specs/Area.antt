-- A box as its callers see it: its least corner and its size (this project's choice; the order of
-- corners is that of Xfig's FIG Format 3.2).
use Rattle.std.specs.Prelude.{ℕ, ℤ, pos, negsuc, ◌+ℤ◌, Bool, ◌&&◌, nat_le, int_le}
use Rattle.std.specs.Prelude.{List, [], ◌∷◌}
use Rattle.gf_plane.specs.declared.point.Point.{Point}

-- the box from its least corner to as far as its width and height reach
pub record Area : Type 0 where
  pub low : Point
  pub width : ℕ
  pub height : ℕ

-- the corner opposite the least one
abbrev pub far_corner : Area → Point
far_corner a = record { x = a.low.x +ℤ pos a.width; y = a.low.y +ℤ pos a.height }

-- the corners in the order in which FIG writes a box, the first one again at the end
abbrev pub corners_again : Area → List Point
corners_again a =
    a.low
    ∷ record { x = a.low.x +ℤ pos a.width; y = a.low.y }
    ∷ far_corner a
    ∷ record { x = a.low.x; y = a.low.y +ℤ pos a.height }
    ∷ a.low
    ∷ []

-- a side from low has a size of at least 1, and both ends lie between -10,000,000 and 10,000,000
unfoldable pub is_side : ℤ → ℕ → Bool
is_side low size = nat_le 1 size && int_le (negsuc 9999999) low
    && int_le (low +ℤ pos size) (pos 10000000)

-- both sides of the box a are at least 1, and their ends lie between -10,000,000 and 10,000,000
abbrev pub is_area : Area → Bool
is_area a = is_side a.low.x a.width && is_side a.low.y a.height
