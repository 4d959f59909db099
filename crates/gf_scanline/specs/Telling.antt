-- Edges that alone determine a row (this project's choice).
use Rattle.std.specs.Prelude.{◌≡◌, ◌%◌, Bool, ℤ, List, flat_map, length}
use Rattle.gf_spans.specs.declared.crossing.Crossing.{Crossing}
use Rattle.gf_spans.specs.declared.span.Span.{Span}
use Rattle.gf_spans.specs.Joining.{is_enclosed}
use Rattle.gf_plane.specs.declared.point.Point.{Point}
use Rattle.gf_shape.specs.RowParts.{contacts_of, crossings_of}
use Rattle.gf_scanline.specs.declared.edge.Edge.{Edge}

-- where the edges pass the height y
abbrev pub crossings_at : ℤ → List Edge → List Crossing
crossings_at y es = flat_map (λ e. crossings_of y (e.from, e.to)) es

-- the spans that the edges which do not pass the height y have there
abbrev pub contacts_at : ℤ → List Edge → List Span
contacts_at y es = flat_map (λ e. contacts_of y (e.from, e.to)) es

-- an even number of the edges passes the height y, and the edges enclose there what is held
pub record TellsRow (holds : Point → Bool) (y : ℤ) (es : List Edge) : Type 0 where
  pub even : length (crossings_at y es) % 2 ≡ 0
  pub exact : (x : ℤ) → is_enclosed (crossings_at y es) (contacts_at y es) x
      ≡ holds (record { x = x; y = y })
