use Rattle.std.proofs.Common.{ℕ, ◌≡◌, ◌≤◌, ◌-◌, ◌⊎◌, ◌&&◌, not}
use Rattle.gf_plane.specs.declared.colour.Rgb.{Rgb}
use Rattle.gf_scanline.specs.Columns.{is_among, is_from}
use Rattle.gf_scanline.specs.Free.{is_free}
use Rattle.gf_scanline.specs.Segments.{views}
use Rattle.gf_scanline.specs.Strips.{IsPainted, over}
use Rattle.gf_scanline.proofs.strip.Strip.paint.Given as goal

abbrev pub invariant-loop-run : goal.invariant-loop-run
invariant-loop-run l = record {
  from : l.fn.columns.from ≤ l.rest.from;
  to : l.rest.to ≡ l.fn.columns.to;
  bound : (l.rest.from ≡ l.fn.columns.from) ⊎ (l.rest.from ≤ l.fn.columns.to);
  free : (k : ℕ) → is_free l.self-inside.free
      k ≡ (is_free l.fn.self.free k && not (is_from l.fn.columns.from l.rest.from k));
  painted : (target behind : ℕ → Rgb) (n : ℕ)
      → IsPainted target (over (is_among l.fn.columns) l.brush behind) n l.fn.self
      → IsPainted target (over (is_among l.rest) l.brush behind) n
      (record { segments = views l.self-inside.segments.items; free = l.self-inside.free });
}

abbrev pub decreases-loop-run : goal.decreases-loop-run
decreases-loop-run l = l.rest.to - l.rest.from
