use Rattle.std.proofs.Common.{ℕ, drop}
use Rattle.std.specs.List.{list_any}
use Rattle.gf_spans.specs.Spans.{is_in_span}
use Rattle.gf_plane.specs.declared.colour.Rgb.{Rgb}
use Rattle.gf_scanline.specs.Strips.{IsPainted, over}
use Rattle.gf_scanline.specs.Windows.{column}
use Rattle.gf_scanline.proofs.row.paint_spans.Given as goal

abbrev pub invariant-loop-span : goal.invariant-loop-span
invariant-loop-span l = (target behind : ℕ → Rgb)
    → IsPainted target (over (λ k. list_any (is_in_span (column l.window k)) l.spans) l.brush
    behind) l.window.width l.initial.strip
    → IsPainted target (over (λ k. list_any (is_in_span (column l.window k))
    (drop l.span-index l.spans)) l.brush behind) l.window.width l.strip
