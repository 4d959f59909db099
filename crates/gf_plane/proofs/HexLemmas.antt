-- A colour that is written in hexadecimal digits is read as that colour.
use Rattle.std.proofs.Common.{◌≡◌, ℕ, ◌<◌, ◌+◌, ◌*◌, ◌/◌, ◌%◌, Some, false, refl, ap, arith}
use Rattle.std.specs.Fmt.{digit_glyph}
use Rattle.gf_plane.specs.declared.colour.Rgb.{Rgb}
use Rattle.gf_plane.specs.ColourBytes.{HasBytes}
use Rattle.gf_plane.specs.HexDigits.{hex_rgb, hex_value, byte_of_hex, rgb_of_hex}

hex_value-digit_glyph : (n : ℕ) → n < 16 → hex_value (digit_glyph false n) ≡ Some n
hex_value-digit_glyph n h = grind (arith, h)

byte_of_hex-hex_byte : (n : ℕ) → n < 256
    → byte_of_hex (digit_glyph false (n / 16)) (digit_glyph false (n % 16)) ≡ Some n
byte_of_hex-hex_byte n h =
    let high : n / 16 < 16 = omega (arith, h) in
    let low : n % 16 < 16 = omega (arith, h) in
    let whole : n / 16 * 16 + n % 16 ≡ n = omega arith in
    rw (hex_value-digit_glyph (n / 16) high, hex_value-digit_glyph (n % 16) low) (ap Some whole)

pub rgb_of_hex-hex_rgb : (c : Rgb) → HasBytes c → rgb_of_hex (hex_rgb c) ≡ Some c
rgb_of_hex-hex_rgb c bytes = rw (
  byte_of_hex-hex_byte c.r bytes.r,
  byte_of_hex-hex_byte c.g bytes.g,
  byte_of_hex-hex_byte c.b bytes.b,
) refl
