-- The pixels of a row as bytes (Netpbm, ppm(5): three bytes a pixel, red, green and blue).
use Rattle.std.specs.Prelude.{ℕ, List, [], ◌∷◌, flat_map}
use Rattle.std.specs.List.{range_with_len}
use Rattle.gf_plane.specs.declared.colour.Rgb.{Rgb}

-- the bytes of a pixel
abbrev pub pixel : Rgb → List ℕ
pixel c = c.r ∷ c.g ∷ c.b ∷ []

-- the bytes of the columns from i on, n of them, in the colours of f
abbrev pub pixels : (ℕ → Rgb) → ℕ → ℕ → List ℕ
pixels f i n = flat_map (λ k. pixel (f k)) (range_with_len i n)
