-- The limits of an operation (this project's choice).
use Rattle.std.specs.Prelude.{ℕ, pos, negsuc, Bool, true, IsTrue, ◌&&◌}
use Rattle.std.specs.Prelude.{nat_lt, nat_le, int_le, List, length}
use Rattle.std.specs.List.{list_all}
use Rattle.gf_plane.specs.declared.colour.Rgb.{Rgb}
use Rattle.gf_plane.specs.declared.point.Point.{Point}
use Rattle.gf_plane.specs.PointCounts.{is_polygon_count}
use Rattle.gf_ops.specs.declared.op.Op.{Op}
use Rattle.gf_ops.specs.declared.op.OpId.{OpId}
use Rattle.gf_ops.specs.declared.op.Clock.{Clock}
use Rattle.gf_ops.specs.declared.change.Form.{Form}
use Rattle.gf_ops.specs.declared.change.Form.TheVariants.{Rect, Polygon, Circle, Ellipse}
use Rattle.gf_ops.specs.declared.change.Change.{Change}
use Rattle.gf_ops.specs.declared.change.Change.TheVariants.{Create, Set}
use Rattle.gf_ops.specs.declared.change.Start.{Start}
use Rattle.gf_ops.specs.declared.change.Value.{Value}
use Rattle.gf_ops.specs.declared.change.Value.TheVariants as value
use Rattle.gf_ops.specs.OperationOrder.{id_cmp, rises}

-- sites are numbered 1 to 8
abbrev pub is_site : ℕ → Bool
is_site s = nat_le 1 s && nat_le s 8

-- an id names one of the first 10,000 operations of a site
abbrev pub is_id : OpId → Bool
is_id i = is_site i.site && nat_le 1 i.seq && nat_le i.seq 10000

-- no entry of the clock is above 10,000
abbrev pub is_clock : Clock → Bool
is_clock c = list_all (λ n. nat_le n 10000) c.0

-- both coordinates of p lie between -1,000,000 and 1,000,000
unfoldable pub is_near : Point → Bool
is_near p = int_le (negsuc 999999) p.x && int_le p.x (pos 1000000) && int_le (negsuc 999999) p.y
    && int_le p.y (pos 1000000)

-- a size is 1 to 1,000,000
abbrev pub is_size : ℕ → Bool
is_size n = nat_le 1 n && nat_le n 1000000

-- the polygon of ps has as many points as it may have, each of them near
abbrev pub is_polygon : List Point → Bool
is_polygon ps = is_polygon_count (length ps) && list_all is_near ps

-- sides and radii are sizes, and a polygon has as many points as it may have, each of them near
abbrev pub is_form : Form → Bool
is_form (Rect width height) = is_size width && is_size height
is_form (Polygon ps) = is_polygon ps
is_form (Circle radius) = is_size radius
is_form (Ellipse rx ry) = is_size rx && is_size ry

-- layers go up to 9,999
abbrev pub is_layer : ℕ → Bool
is_layer n = nat_le n 9999

-- the red, the green and the blue of c are bytes
abbrev pub is_colour : Rgb → Bool
is_colour c = nat_lt c.r 256 && nat_lt c.g 256 && nat_lt c.b 256

-- a value keeps the limits of its attribute
abbrev pub is_value : Value → Bool
is_value (value.Place p) = is_near p
is_value (value.Points ps) = is_polygon ps
is_value (value.Size width height) = is_size width && is_size height
is_value (value.Colour c) = is_colour c
is_value (value.Layer n) = is_layer n
is_value (value.Shown b) = true

-- an aim has at most 1,000 ids, which rise
abbrev pub is_aim : List OpId → Bool
is_aim aim = nat_le (length aim) 1000 && list_all is_id aim && rises id_cmp aim

-- a new object has a form, a layer and a colour in range, and is near
abbrev pub is_start : Start → Bool
is_start s = is_form s.form && is_near s.place && is_layer s.layer && is_colour s.colour

-- a new object begins in range. A set object has an id, and the new value and the aim are in range
abbrev pub is_change : Change → Bool
is_change (Create start) = is_start start
is_change (Set object v aim) = is_id object.0 && is_value v && is_aim aim

-- the id, the clock and the change of a keep the limits
abbrev pub is_in_range : Op → Bool
is_in_range a = is_id a.id && is_clock a.past && is_change a.change

-- the operation a keeps all limits
abbrev pub IsInRange : Op → Type 0
IsInRange a = IsTrue (is_in_range a)
