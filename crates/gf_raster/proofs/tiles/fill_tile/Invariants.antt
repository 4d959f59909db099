use Rattle.std.proofs.Common.{ℕ, ◌≡◌, ◌+◌, ◌<◌, ◌≤◌, ◌++◌, Global, Vec, length, get_or}
use Rattle.gf_plane.specs.declared.colour.Rgb.{Rgb}
use Rattle.gf_plane.specs.declared.point.Point.{Point}
use Rattle.gf_scanline.specs.Windows.{View}
use Rattle.gf_scanline.specs.Picture.{cells}
use Rattle.gf_raster.specs.Rows.{AreRows}
use Rattle.gf_raster.proofs.tiles.fill_tile.Given as goal

abbrev pub invariant-loop-i : goal.invariant-loop-i
invariant-loop-i l = record {
  count : length l.pieces.items ≡ length l.initial.pieces.items;
  done : (colour : Point → Rgb) (w : View) (top : ℕ) → l.pass.from + l.pass.len ≤ w.width
      → AreRows colour w top l.strokes
      → (k : ℕ) (d : Vec ℕ Global) → k < l.i
      → (get_or l.pieces.items k d).items ≡ (get_or l.initial.pieces.items k d).items ++ cells
      colour w (top + k) l.pass.from l.pass.len;
  rest : (k : ℕ) (d : Vec ℕ Global) → l.i ≤ k
      → get_or l.pieces.items k d ≡ get_or l.initial.pieces.items k d;
}
