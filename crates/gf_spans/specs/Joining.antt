-- What crossings and contacts enclose in a row (even-odd, both included; this project's choice).
use Rattle.std.specs.Prelude.{◌≡◌, ◌%◌, nat_eq, Bool, ◌||◌, ℤ, List, count_by}
use Rattle.std.specs.List.{list_any}
use Rattle.gf_spans.specs.declared.crossing.Crossing.{Crossing}
use Rattle.gf_spans.specs.declared.span.Span.{Span}
use Rattle.gf_spans.specs.Crossings.{is_at, is_before}
use Rattle.gf_spans.specs.Spans.{is_in_span, AreApart}

-- x is at a crossing or in a contact, or an odd number of crossings lies before it
abbrev pub is_enclosed : List Crossing → List Span → ℤ → Bool
is_enclosed crossings contacts x =
    (list_any (is_at x) crossings || list_any (is_in_span x) contacts)
    || nat_eq (count_by (is_before x) crossings % 2) 1

-- the spans hold x exactly if it is enclosed; they neither overlap nor touch
pub record IsJoined (crossings : List Crossing) (contacts : List Span)
    (spans : List Span) : Type 0 where
  pub exact : (x : ℤ) → list_any (is_in_span x) spans ≡ is_enclosed crossings contacts x
  pub apart : AreApart spans
