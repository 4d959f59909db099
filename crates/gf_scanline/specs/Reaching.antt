-- How far edges reach to the left and to the right (this project's choice).
use Rattle.std.specs.Prelude.{◌≤ℤ◌}
use Rattle.gf_spans.specs.declared.span.Span.{Span}
use Rattle.gf_scanline.specs.declared.edge.Edge.{Edge}

-- both points of the edge stand from the first number of the span to its last
abbrev pub IsAcross : Span → Edge → Type 0
IsAcross s e = (s.first ≤ℤ e.from.x) × (e.from.x ≤ℤ s.last) × (s.first ≤ℤ e.to.x)
    × (e.to.x ≤ℤ s.last)
