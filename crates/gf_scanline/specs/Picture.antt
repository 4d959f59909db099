-- The picture of a colour function in a window (Netpbm, ppm(5): the raw form, maxval 255).
use Rattle.std.specs.Prelude.{ℕ, List, ◌++◌, flat_map, codes}
use Rattle.std.specs.List.{range_with_len}
use Rattle.std.specs.Fmt.{decimal}
use Rattle.gf_plane.specs.declared.colour.Rgb.{Rgb}
use Rattle.gf_plane.specs.declared.point.Point.{Point}
use Rattle.gf_scanline.specs.declared.stroke.Stroke.{Stroke}
use Rattle.gf_scanline.specs.Pixels.{pixels}
use Rattle.gf_scanline.specs.Strokes.{AreStrokesOf}
use Rattle.gf_scanline.specs.Windows.{View, sample}

-- the pixels of row j from column i on, n of them
abbrev pub cells : (Point → Rgb) → View → ℕ → ℕ → ℕ → List ℕ
cells colour w j i n = pixels (λ k. colour (sample w k j)) i n

-- the strokes have the colours of row j
abbrev pub ShowsRow : (Point → Rgb) → View → ℕ → List Stroke → Type 0
ShowsRow colour w j strokes = AreStrokesOf (λ k. colour (sample w k j)) w.width strokes

-- the rows from row j on, n of them
abbrev pub rows : (Point → Rgb) → View → ℕ → ℕ → List ℕ
rows colour w j n = flat_map (λ k. cells colour w k 0 w.width) (range_with_len j n)

-- all rows, from the top
abbrev pub raster : (Point → Rgb) → View → List ℕ
raster colour w = rows colour w 0 w.height

-- the header: the raw form, width, height and the greatest value
abbrev pub header : View → List ℕ
header w = codes "P6\n" ++ decimal w.width ++ codes " " ++ decimal w.height ++ codes "\n255\n"

-- the header, then all rows
abbrev pub picture : (Point → Rgb) → View → List ℕ
picture colour w = header w ++ raster colour w
