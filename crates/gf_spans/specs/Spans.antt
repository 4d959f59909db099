-- Spans of whole numbers (this project's choice).
use Rattle.std.specs.Prelude.{Bool, ◌&&◌, ℤ, pos, ◌+ℤ◌, ◌≤ℤ◌, ◌<ℤ◌}
use Rattle.std.specs.Prelude.{int_le, int_lt, List, [], ◌∷◌}
use Rattle.gf_spans.specs.declared.span.Span.{Span}

-- x lies in the span s
abbrev pub is_in_span : ℤ → Span → Bool
is_in_span x s = int_le s.first x && int_le x s.last

-- the span s holds no number
abbrev pub is_empty : Span → Bool
is_empty s = int_lt s.last s.first

-- each span holds a number, and between two neighbours lies one that neither holds
abbrev pub AreApart : List Span → Type 0
AreApart [] = Unit {0}
AreApart (s ∷ []) = s.first ≤ℤ s.last
AreApart (s ∷ t ∷ ss) = (s.first ≤ℤ s.last) × ((s.last +ℤ pos 1) <ℤ t.first)
    × AreApart (t ∷ ss)
