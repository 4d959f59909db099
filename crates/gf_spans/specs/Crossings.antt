-- Places on a line, beside its whole numbers (this project's choice).
use Rattle.std.specs.Prelude.{Bool, not, ◌&&◌, ℤ, ◌+ℤ◌, ◌*ℤ◌, int_lt}
use Rattle.std.specs.Ordering.{int_eq}
use Rattle.std.specs.Int.{int_div_euclid}
use Rattle.gf_spans.specs.declared.crossing.Crossing.{Crossing}

-- the place k is the number x
abbrev pub is_at : ℤ → Crossing → Bool
is_at x k = int_eq k.floor x && not k.between

-- the place k lies before the number x
abbrev pub is_before : ℤ → Crossing → Bool
is_before x k = int_lt k.floor x

-- the place x + run * rise / height, rounded down, and whether it lies between two numbers
unfoldable pub place : ℤ → ℤ → ℤ → ℤ → Crossing
place x run rise height = record {
  floor = x +ℤ int_div_euclid (run *ℤ rise) height;
  between = not (int_eq (height *ℤ int_div_euclid (run *ℤ rise) height) (run *ℤ rise));
}
