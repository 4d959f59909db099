-- The rows of a shape: the points that it holds at one height, as spans (this project's choice).
use Rattle.std.specs.Prelude.{◌≡◌, Bool, ℤ, List}
use Rattle.std.specs.List.{list_any}
use Rattle.gf_spans.specs.declared.span.Span.{Span}
use Rattle.gf_spans.specs.Spans.{is_in_span, AreApart}
use Rattle.gf_plane.specs.declared.point.Point.{Point}

-- row law: the rising spans hold x exactly if (x, y) is held; they neither overlap nor touch
pub record IsRow (holds : Point → Bool) (y : ℤ) (spans : List Span) : Type 0 where
  pub exact : (x : ℤ) → list_any (is_in_span x) spans ≡ holds (record { x = x; y = y })
  pub apart : AreApart spans
