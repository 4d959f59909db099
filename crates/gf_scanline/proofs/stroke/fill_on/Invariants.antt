use Rattle.std.proofs.Common.{ℕ, ◌≤◌, ◌-◌, ◌++◌, drop}
use Rattle.gf_plane.specs.declared.colour.Rgb.{Rgb}
use Rattle.gf_scanline.specs.Pixels.{pixels}
use Rattle.gf_scanline.specs.Strokes.{AreStrokesFrom}
use Rattle.gf_scanline.proofs.StrokeLemmas.{IsFilling}
use Rattle.gf_scanline.proofs.stroke.fill_on.Given as goal

abbrev pub invariant-loop-stroke : goal.invariant-loop-stroke
invariant-loop-stroke l = record {
  high : l.at ≤ l.to;
  filling : (target : ℕ → Rgb) (n : ℕ) → AreStrokesFrom l.from target n l.strokes → l.to ≤ n
      → IsFilling target n l.to l.at (drop l.stroke-index l.strokes) l.bytes.items
      (l.initial.bytes.items ++ pixels target l.from (l.to - l.from));
}
