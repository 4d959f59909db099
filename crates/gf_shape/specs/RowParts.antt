-- What a row of a chain is found from: where its edges pass or touch a height (half-open even-odd
-- rule; this project's choice).
use Rattle.std.specs.Prelude.{Bool, cond, ◌&&◌, ◌||◌, ℤ, pos, ◌-ℤ◌, int_le, List}
use Rattle.std.specs.Prelude.{[], ◌∷◌, ◌++◌, Option, Some, None, option_to_list}
use Rattle.std.specs.Ordering.{int_eq}
use Rattle.std.specs.Int.{int_min, int_max}
use Rattle.gf_spans.specs.declared.crossing.Crossing.{Crossing}
use Rattle.gf_spans.specs.declared.span.Span.{Span}
use Rattle.gf_spans.specs.Crossings.{place}
use Rattle.gf_plane.specs.declared.point.Point.{Point}
use Rattle.gf_shape.specs.Edges.{Edge, climbs_past, falls_past}

-- a point at the height y
abbrev pub on : ℤ → Point
on y = record { x = pos 0; y = y }

-- the edge e passes the height y, upwards or downwards
abbrev pub passes : ℤ → Edge → Bool
passes y e = climbs_past (on y) e || falls_past (on y) e

-- the place where the edge passes the height y, reckoned from its first point
abbrev pub crossing : ℤ → Edge → Crossing
crossing y (a, b) =
    cond (int_le a.y y)
    (place a.x (b.x -ℤ a.x) (y -ℤ a.y) (b.y -ℤ a.y))
    (place a.x (b.x -ℤ a.x) (a.y -ℤ y) (a.y -ℤ b.y))

-- the numbers from the lesser to the greater of m and n
abbrev pub span_between : ℤ → ℤ → Span
span_between m n = record { first = int_min m n; last = int_max m n }

-- the numbers at the height y of an edge that does not pass it, if there are any
abbrev pub contact : ℤ → Edge → Option Span
contact y (a, b) =
    cond (int_eq a.y y && int_eq b.y y)
    (Some (span_between a.x b.x))
    (cond (int_eq a.y y) (Some (span_between a.x a.x))
    (cond (int_eq b.y y) (Some (span_between b.x b.x)) None))

-- the crossing of an edge that passes the height y
abbrev pub crossings_of : ℤ → Edge → List Crossing
crossings_of y e = cond (passes y e) (crossing y e ∷ []) []

-- the contact of an edge that does not pass the height y
abbrev pub contacts_of : ℤ → Edge → List Span
contacts_of y e = cond (passes y e) [] (option_to_list (contact y e))

-- the crossings of the edges from a along ps
abbrev pub crossings_along : ℤ → Point → List Point → List Crossing
crossings_along y a [] = []
crossings_along y a (b ∷ ps) = crossings_of y (a, b) ++ crossings_along y b ps

-- the contacts of the edges from a along ps
abbrev pub contacts_along : ℤ → Point → List Point → List Span
contacts_along y a [] = []
contacts_along y a (b ∷ ps) = contacts_of y (a, b) ++ contacts_along y b ps

-- the last point of a path
abbrev pub end_of : Point → List Point → Point
end_of a [] = a
end_of a (b ∷ ps) = end_of b ps
