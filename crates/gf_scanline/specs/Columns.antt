-- Columns of a row, from one to before another (this project's choice).
use Rattle.std.specs.Prelude.{ℕ, Bool, ◌&&◌, nat_le, nat_lt}
use Rattle.gf_scanline.specs.declared.columns.Columns.{Columns}

-- k lies from a to before b
abbrev pub is_from : ℕ → ℕ → ℕ → Bool
is_from a b k = nat_le a k && nat_lt k b

-- k is one of the columns
abbrev pub is_among : Columns → ℕ → Bool
is_among c k = is_from c.from c.to k
