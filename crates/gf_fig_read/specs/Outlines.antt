-- The outlines of polylines and ellipses, field by field (Xfig, FIG Format 3.2: join_style to the
-- points, direction to end_y); the limits and the faults are this project's profile.
use Rattle.std.specs.Prelude.{ℕ, ◌-◌, Bool, false, ◌&&◌, ◌||◌, List, length, Option}
use Rattle.std.specs.Prelude.{Some, slice_get, if◌then◌else◌}
use Rattle.std.specs.Ordering.{int_eq}
use Rattle.gf_plane.specs.declared.point.Point.{Point}
use Rattle.gf_shape.specs.declared.outline.Outline.{Outline}
use Rattle.gf_shape.specs.declared.outline.Outline.TheVariants.{Chain, Disc, Oval}
use Rattle.gf_fig_tokens.specs.Forms.{whole, decimal}
use Rattle.gf_fig_tokens.specs.Fields.{Reader, ◌>>=◌, any, check, give, natural, point}
use Rattle.gf_fig_tokens.specs.Fields.{points}
use Rattle.gf_fig_tokens.specs.declared.faults.FigFault.TheVariants as fault

-- both are there and are one point
abbrev pub same_point : Option Point → Option Point → Bool
same_point (Some p) (Some q) = int_eq p.x q.x && int_eq p.y q.y
same_point p q = false

-- the last of the points is the first: no rectangle is asked of a box
abbrev pub is_closed : List Point → Bool
is_closed ps = same_point (slice_get ps (length ps - 1)) (slice_get ps 0)

-- the fields of a polyline from join_style to npoints: how many points follow
unfoldable pub count : Bool → Reader ℕ
count boxed = do
  join_style ← any whole
  cap_style ← any whole
  radius ← any whole
  forward_arrow ← natural 0 0 fault.Arrow
  backward_arrow ← natural 0 0 fault.Arrow
  natural (if boxed then 5 else 4) (if boxed then 5 else 65536) fault.Count

-- the fields of a polyline from join_style to its last point: box or polygon
unfoldable pub chain : Bool → Reader Outline
chain boxed = do
  npoints ← count boxed
  ps ← points npoints
  closed ← check (is_closed ps) fault.Open
  give (Chain (record { boxed = boxed; points = ps }))

-- the fields of an ellipse from direction to end_y. A circle has one radius twice, and is the same
-- at every angle; other axes are level
unfoldable pub ellipse : Bool → Reader Outline
ellipse round = do
  direction ← any whole
  zero ← any decimal
  angle ← check (round || zero) fault.Angle
  centre ← point
  radius_x ← natural 1 10000000 fault.Radius
  radius_y ← natural (if round then radius_x else 1) (if round then radius_x else 10000000)
      fault.Radius
  start_x ← any whole
  start_y ← any whole
  end_x ← any whole
  end_y ← any whole
  give (if round then Disc (record { centre = centre; radius = radius_x })
      else Oval (record { centre = centre; rx = radius_x; ry = radius_y }))
