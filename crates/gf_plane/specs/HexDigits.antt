-- Colours in six hexadecimal digits: written in lower case, read in either (this project's choice;
-- so Xfig, FIG Format 3.2 has them).
use Rattle.std.specs.Prelude.{ℕ, ◌+◌, ◌-◌, ◌*◌, ◌/◌, ◌%◌, false, List, []}
use Rattle.std.specs.Prelude.{◌∷◌, ◌++◌, Option, Some, None, option_map, option_and_then}
use Rattle.std.specs.Prelude.{if◌then◌else◌}
use Rattle.std.specs.Fmt.{digit_glyph}
use Rattle.std.specs.Int.{is_in_range}
use Rattle.gf_plane.specs.declared.colour.Rgb.{Rgb}

-- byte b in two hexadecimal digits of lower case
abbrev pub hex_byte : ℕ → List ℕ
hex_byte b = digit_glyph false (b / 16) ∷ digit_glyph false (b % 16) ∷ []

-- colour c in six hexadecimal digits of lower case: red, green, blue
abbrev pub hex_rgb : Rgb → List ℕ
hex_rgb c = hex_byte c.r ++ hex_byte c.g ++ hex_byte c.b

-- what a hexadecimal digit of either case is worth
abbrev pub hex_value : ℕ → Option ℕ
hex_value b =
    if is_in_range 48 57 b then Some (b - 48)
    else (if is_in_range 97 102 b then Some (b - 97 + 10)
    else (if is_in_range 65 70 b then Some (b - 65 + 10)
    else None))

-- the byte of two hexadecimal digits, the higher one first
abbrev pub byte_of_hex : ℕ → ℕ → Option ℕ
byte_of_hex high low = option_and_then (λ h. option_map (λ l. h * 16 + l) (hex_value low))
    (hex_value high)

-- the colour of six hexadecimal digits: red, green, blue
abbrev pub rgb_of_hex : List ℕ → Option Rgb
rgb_of_hex (a ∷ b ∷ c ∷ d ∷ e ∷ f ∷ []) =
    option_and_then (λ red. option_and_then
    (λ green. option_map (λ blue. record { r = red; g = green; b = blue })
    (byte_of_hex e f)) (byte_of_hex c d)) (byte_of_hex a b)
rgb_of_hex digits = None
