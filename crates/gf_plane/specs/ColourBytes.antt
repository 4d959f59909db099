-- What the type of a colour says of its values.
use Rattle.std.specs.Prelude.{◌<◌}
use Rattle.gf_plane.specs.declared.colour.Rgb.{Rgb}

-- the red, the green and the blue of c are bytes
pub record HasBytes (c : Rgb) : Type 0 where
  pub r : c.r < 256
  pub g : c.g < 256
  pub b : c.b < 256
