use Rattle.std.proofs.Common.{ℕ, ◌≤◌, ◌<◌, ◌++◌, List, get_or}
use Rattle.gf_plane.specs.declared.colour.Rgb.{Rgb}
use Rattle.gf_scanline.specs.declared.segment.Segment.{Segment}
use Rattle.gf_scanline.specs.declared.stroke.Stroke.{Stroke}
use Rattle.gf_scanline.specs.Segments.{AreSegmentsOf, views}
use Rattle.gf_scanline.specs.Strokes.{AreStrokesFrom}
use Rattle.gf_scanline.proofs.segment.strokes_of.Given as goal

abbrev pub invariant-loop-segment : goal.invariant-loop-segment
invariant-loop-segment l = record {
  seen : (k : ℕ) (d : Segment) → k < l.segment-index → (get_or l.segments k d).columns.to ≤ l.at;
  strokes : (target : ℕ → Rgb) (n : ℕ) → AreSegmentsOf target n (views l.segments)
      → (rest : List Stroke) → AreStrokesFrom l.at target n rest
      → AreStrokesFrom 0 target n (l.strokes.items ++ rest);
}
