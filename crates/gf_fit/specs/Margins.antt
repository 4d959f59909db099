-- The margins of a picture, and what lies within them (this project's choice).
use Rattle.std.specs.Prelude.{ℕ, ◌*◌, ◌-◌, ◌/◌}

-- how many of n columns make the margin at each end; of rows likewise
abbrev pub margin : ℕ → ℕ
margin n = n / 20

-- how many of n columns lie within the margins; of rows likewise
abbrev pub inner : ℕ → ℕ
inner n = n - 2 * margin n
