-- What want of memory leaves of a picture: whole bands of 64 rows (this project's choice).
use Rattle.std.specs.Prelude.{ℕ, ◌*◌, ◌<◌, List, ◌++◌, Option}
use Rattle.std.specs.Io.KnownBytes.{Appends}
use Rattle.gf_plane.specs.declared.colour.Rgb.{Rgb}
use Rattle.gf_plane.specs.declared.point.Point.{Point}
use Rattle.gf_scanline.specs.Picture.{rows}
use Rattle.gf_scanline.specs.Windows.{View}

-- known bytes grow from old to new by a header and whole bands of 64 rows, fewer than all
pub record HasBands (header : List ℕ) (colour : Point → Rgb) (w : View)
    (old new : Option (List ℕ)) : Type 0 where
  pub bands : ℕ
  pub fewer : 64 * bands < w.height
  pub grows : Appends old new (header ++ rows colour w 0 (64 * bands))
