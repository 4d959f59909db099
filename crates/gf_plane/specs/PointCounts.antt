-- How many points a polygon has (this project's choice).
use Rattle.std.specs.Prelude.{ℕ, Bool, ◌&&◌, nat_le}

-- n is a number of points that a polygon may have, 3 to 64
abbrev pub is_polygon_count : ℕ → Bool
is_polygon_count n = nat_le 3 n && nat_le n 64
