-- Columns in one colour, in any order. No public clause cites this module.
use Rattle.std.specs.Prelude.{ℕ, ◌≡◌, ◌<◌, true, List, Contains, map}
use Rattle.gf_plane.specs.declared.colour.Rgb.{Rgb}
use Rattle.gf_scanline.specs.declared.segment.Segment.{Segment}
use Rattle.gf_scanline.specs.Columns.{is_among}
use Rattle.gf_scanline.specs.Strips.{SegmentView, is_painted}

-- the segments without the places of their brushes
abbrev pub views : List Segment → List SegmentView
views ss = map (λ s. record { columns = s.columns; colour = s.brush.now }) ss

-- each of n columns lies in a segment, and each segment has the colour that target gives its
-- columns
pub record AreSegmentsOf (target : ℕ → Rgb) (n : ℕ) (ss : List SegmentView) : Type 0 where
  pub whole : (k : ℕ) → k < n → is_painted ss k ≡ true
  pub colours : (s : SegmentView) (k : ℕ) → Contains ss s → k < n → is_among s.columns k ≡ true
      → s.colour ≡ target k
