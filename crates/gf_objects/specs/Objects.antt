-- What the figures of a drawing become: objects (this project's choice).
use Rattle.std.specs.Prelude.{◌-◌, true, List, map}
use Rattle.std.specs.Prelude.{if◌then◌else◌}
use Rattle.gf_shape.specs.declared.outline.Outline.{Outline}
use Rattle.gf_shape.specs.declared.outline.Outline.TheVariants.{Chain, Disc, Oval}
use Rattle.gf_plane.specs.declared.point.Point.{Point}
use Rattle.gf_plane.specs.Moving.{minus}
use Rattle.gf_shape.specs.Opened.{opened}
use Rattle.gf_ops.specs.declared.change.Form.{Form}
use Rattle.gf_ops.specs.declared.change.Form.TheVariants.{Circle, Ellipse, Polygon}
use Rattle.gf_ops.specs.declared.change.Start.{Start}
use Rattle.gf_figures.specs.declared.figure.Figure.{Figure}
use Rattle.gf_figures.specs.Colours.{Table}
use Rattle.gf_figures.specs.DrawingColour.{figure_colour}
use Rattle.gf_objects.specs.Boxes.{box_form, is_box, least_corner, point_at}
use Rattle.gf_objects.specs.Places.{polygon_place}

-- the points of the chain ps without the last one, each seen from o
abbrev pub seen_from : Point → List Point → List Point
seen_from o ps = map (λ p. minus p o) (opened ps)

-- the place of what an outline becomes: a box's least corner, that of a polygon, or a centre
abbrev pub place_of : Outline → Point
place_of (Chain ring) =
    if is_box ring
    then least_corner (point_at ring.points 0) (point_at ring.points 2)
    else polygon_place ring.points
place_of (Disc disc) = disc.centre
place_of (Oval oval) = oval.centre

-- the form of what an outline becomes, seen from its place
abbrev pub form_of : Outline → Form
form_of (Chain ring) =
    if is_box ring
    then box_form (point_at ring.points 0) (point_at ring.points 2)
    else Polygon (seen_from (polygon_place ring.points) ring.points)
form_of (Disc disc) = Circle disc.radius
form_of (Oval oval) = Ellipse oval.rx oval.ry

-- what the object of the figure f begins with: its layer is 999 less the depth
abbrev pub start_of : Table → Figure Outline → Start
start_of table f =
    record {
      form = form_of f.shape;
      place = place_of f.shape;
      colour = figure_colour table f;
      layer = 999 - f.depth;
      shown = true;
    }
