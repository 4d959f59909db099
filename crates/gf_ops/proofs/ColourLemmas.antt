-- The colours of operations in range are of bytes. The crates above cite this.
use Rattle.std.proofs.Common.{◌≡◌, true, ◌&&◌}
use Rattle.std.specs.Prelude.{nat_lt}
use Rattle.std.proofs.lemmas.Bool.{and_parts, ltb-true}
use Rattle.gf_plane.specs.declared.colour.Rgb.{Rgb}
use Rattle.gf_plane.specs.ColourBytes.{HasBytes}
use Rattle.gf_ops.specs.Limits.{is_colour}

pub bytes_within : (c : Rgb) → is_colour c ≡ true → HasBytes c
bytes_within c h =
    let rest = and_parts (nat_lt c.r 256 && nat_lt c.g 256) (nat_lt c.b 256) h in
    let first = and_parts (nat_lt c.r 256) (nat_lt c.g 256) rest.0 in
    record {
      r = ltb-true c.r 256 first.0;
      g = ltb-true c.g 256 first.1;
      b = ltb-true c.b 256 rest.1;
    }
